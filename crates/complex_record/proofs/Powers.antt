-- Number 17: imported power and the powers of the hours follow each other, so they are tried as one part.
-- Assumes nothing.
use mathlib.Core.Path.{◌≡◌, refl, sym, ap₂, ◌∙◌}
use mathlib.Core.Bool.{Bool, or-false, ◌||◌}
use mathlib.Core.List.{List}
use Prim.Native.Nat.{ℕ, ◌+◌, ◌-◌, ◌*◌}
use native.Mathlib.Omega.{arith}
use lib.ListN.{length, take, drop}
use Rattle.rules.specs.declared.Header.{Header}
use Rattle.rules.specs.Range.{any}
use Rattle.rules.specs.Month.{hours}
use Rattle.rules.specs.Fields.{big_endian}
use Rattle.rules.specs.Sheet.{power}
use Rattle.rules.specs.Refusals.{one_of, too_high}
use Rattle.rules.specs.ComplexRecord.{imported, drawn, sent}
use Rattle.rules.specs.Averaging.{high_at, high_record}
use Rattle.laws.proofs.Range.{any_append, any_groups, any_same}
use Rattle.laws.proofs.Averaging.{WholeRecord}
use Rattle.refusals_powers.specs.Powers.{high_powers}
use Rattle.refusals_powers.proofs.Powers.{part_high}

module _ (h : Header) (r : List ℕ) (whole : WholeRecord h r) where
  -- Power i of the record, imported power being the first.
  abbrev high : ℕ → Bool
  high i = too_high (big_endian 4 r (5 + 4 * i))

  first_high : any high 1 ≡ too_high (imported r)
  unfolding any imported
  first_high = refl

  hour_high : (i : ℕ) → any (λ j. high (1 + (2 * i + j))) 2 ≡ high_at r i
  unfolding any high_at one_of drawn sent power
  hour_high i =
      let d : 5 + 4 * (1 + (2 * i + 0)) ≡ 9 + (0 + 8 * i) = omega arith in
      let s : 5 + 4 * (1 + (2 * i + 1)) ≡ 9 + (4 + 8 * i) = omega arith in
      rw (d, s, or-false)

  pub powers_high : high_powers (take (length r - 5) (drop 5 r)) ≡ high_record h r
  unfolding high_record one_of
  powers_high =
      let count : length r - 5 ≡ 4 * (1 + 2 * hours h) = omega (arith, whole.as_long) in
      part_high r 5 (length r - 5) (1 + 2 * hours h) count (omega (arith, whole.as_long))
      ∙ any_append high 1 (2 * hours h)
      ∙ ap₂ (λ (a b : Bool). a || b) first_high
      (sym (any_groups (λ i. high (1 + i)) 2 (hours h))
      ∙ any_same _ _ (hours h) (λ i l. hour_high i)
      ∙ sym (or-false (any (high_at r) (hours h))))
