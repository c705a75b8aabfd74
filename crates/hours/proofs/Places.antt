-- The hours of a month hold all powers of the part, in either order; where none of them is high the sums of
-- 32 bits are exact.
use Rattle.std.proofs.Common.{◌≡◌, ℕ, ◌+◌, ◌*◌, ◌/◌, ◌<◌, ◌≤◌, ◌%◌, ◌^◌, List, length, Bool, false, ◌||◌}
use Rattle.std.proofs.Common.{max, min, ap, refl, ◌∙◌, arith}
use Rattle.std.proofs.lemmas.Bool.Decides.{nat_tests}
use Rattle.rules.specs.Fields.{big_endian}
use Rattle.rules.specs.Sheet.{series}
use Rattle.rules.specs.Refusals.{too_high}
use Rattle.rules.specs.Range.{any, sum}
use Rattle.laws.proofs.Range.{any_same, any_groups, any_columns, any_clear, sum_same}
use Rattle.refusals_powers.specs.Powers.{high_power, high_powers}
use Rattle.refusals_powers.proofs.Powers.{high_max}
use Rattle.hours.specs.Series.{power_in}
use Rattle.hours.specs.Sums.{asked_of, met_of, hour_high}
use Rattle.hours.proofs.Wrapping.{sum_exact}

-- Of three powers, wherever their places are written out, one is above the ceiling.
three : (s : List ℕ) (a b c x y z : ℕ) → x ≡ a → y ≡ b → z ≡ c
    → too_high (max (max (big_endian 4 s a) (big_endian 4 s b)) (big_endian 4 s c))
    ≡ ((too_high (big_endian 4 s x) || too_high (big_endian 4 s y)) || too_high (big_endian 4 s z))
three s a b c x y z p q r =
    rw (p, q, r) (high_max (max (big_endian 4 s a) (big_endian 4 s b)) (big_endian 4 s c)
    ∙ ap (λ (t : Bool). t || too_high (big_endian 4 s c)) (high_max (big_endian 4 s a) (big_endian 4 s b)))

module _ (s : List ℕ) (days : ℕ) where
  by_hour : (i : ℕ) → hour_high s 12 4 8 i ≡ any (λ j. high_power s (3 * i + j)) 3
  unfolding any
  by_hour i =
      three s (0 + 12 * i) (4 + 12 * i) (8 + 12 * i) (4 * (3 * i + 0)) (4 * (3 * i + 1)) (4 * (3 * i + 2))
      (omega arith) (omega arith) (omega arith)

  by_column : (i : ℕ)
      → hour_high s 4 (4 * (24 * days)) (8 * (24 * days)) i ≡ any (λ j. high_power s (24 * days * j + i)) 3
  unfolding any
  by_column i =
      three s (0 + 4 * i) (4 * (24 * days) + 4 * i) (8 * (24 * days) + 4 * i)
      (4 * (24 * days * 0 + i)) (4 * (24 * days * 1 + i)) (4 * (24 * days * 2 + i))
      (omega arith) (omega arith) (omega arith)

  module _ (whole : length s ≡ 3 * (96 * days)) where
    all_powers : 3 * (24 * days) ≡ length s / 4
    all_powers = omega arith

    pub hours_hold : any (hour_high s 12 4 8) (24 * days) ≡ high_powers s
    unfolding high_powers
    hours_hold =
        any_same _ _ (24 * days) (λ i h. by_hour i) ∙ any_groups (high_power s) 3 (24 * days)
        ∙ ap (any (high_power s)) all_powers

    pub columns_hold : any (hour_high s 4 (4 * (24 * days)) (8 * (24 * days))) (24 * days) ≡ high_powers s
    unfolding high_powers
    columns_hold =
        any_same _ _ (24 * days) (λ i h. by_column i) ∙ any_columns (high_power s) 3 (24 * days)
        ∙ ap (any (high_power s)) all_powers

low_max : (a b c : ℕ) → too_high (max (max a b) c) ≡ false → (a ≤ 100000) × (b ≤ 100000)
unfolding too_high
low_max a b c e = (grind (arith, nat_tests), grind (arith, nat_tests))

-- Where no power is above the ceiling, an S above it is as one at it.
module _ (s : List ℕ) (step possible outside S n : ℕ) (few : n ≤ 744)
    (low : any (hour_high s step possible outside) n ≡ false) where
  abbrev w : ℕ → ℕ
  w = power_in s (series 0 step)

  abbrev p : ℕ → ℕ
  p = power_in s (series possible step)

  each : (i : ℕ) → i < n → (w i ≤ 100000) × (p i ≤ 100000)
  each i l = low_max _ _ _ (any_clear _ n low i l)

  held : (i : ℕ) → i < n → asked_of p (min S 100000) i ≡ asked_of p S i
  held i l = let two = each i l in omega (arith, two)

  pub asked_exact : {r : ℕ} → r ≡ sum (asked_of p (min S 100000)) n % 2 ^ 32 → r ≡ sum (asked_of p S) n
  asked_exact e =
      sum_exact _ n few (λ i l. let two = each i l in omega (arith, two)) e ∙ sum_same _ _ {n = n} refl held

  pub met_exact : {r : ℕ} → r ≡ sum (met_of w p (min S 100000)) n % 2 ^ 32 → r ≡ sum (met_of w p S) n
  met_exact e =
      sum_exact _ n few (λ i l. let two = each i l in omega (arith, two)) e
      ∙ sum_same _ _ {n = n} refl (λ i l. ap (λ (m : ℕ). min m (w i)) (held i l))
