-- An entry's turn, with the contract volumes in an array. Assumes nothing.
use Rattle.std.proofs.Common.{◌≡◌, ℕ, ◌+◌, ◌-◌, ◌≤◌, ◌<◌, true, false, List, get_or, set, sym, ap, ◌∙◌, arith}
use mathlib.Core.Bool.{or-false}
use native.Mathlib.Nat.{le_refl, le_of_lt}
use Rattle.rules.specs.declared.Transfer.{Transfer}
use Rattle.rules.specs.Units.{tenths_ceiling}
use Rattle.rules.specs.Range.{any}
use Rattle.rules.specs.Refusals.{one_of, first_of}
use Rattle.rules.specs.TransferList.{entries, entry}
use Rattle.rules.specs.Transfers.{moved, after_entries, overdrawn, overdrawn_at, turn_tests}
use Rattle.laws.specs.Bounds.{most_word}
use Rattle.laws.proofs.Arrays.{Agrees, Agrees-set}
use Rattle.laws.proofs.Range.{any_clear, any_hit, any_more}
use Rattle.laws.proofs.Transfers.{Named, AllNamed, taker_moved, given-giver, given_other, moved_given}
use Rattle.laws.proofs.Transfers.{after_more, after_within}
use Rattle.units.specs.declared.Tenths.{Tenths}
use Rattle.units.specs.Sums.{tenths, added}
use Rattle.units.proofs.Adding.{added_exact}
use Rattle.transfers.specs.Held.{unmet}

-- Before an entry that names two of the 32 consumers; no volume is above the ceiling.
module _ (v : ℕ → ℕ) (xs : List Tenths) (agrees : Agrees 32 (tenths 0) (λ c. tenths (v c)) xs)
    (small : (c : ℕ) → c < 32 → v c ≤ tenths_ceiling) (t : Transfer) (named : Named 32 t) where
  has : (c : ℕ) → c < 32 → (get_or xs c (tenths 0)).0 ≡ v c
  has c b = ap (λ (x : Tenths). x.0) (agrees.each c b)

  module _ {amount : Tenths} (is : (amount.0 ≡ t.amount) × (amount.0 ≤ most_word)) where
    -- What the taker has with the amount, of which the sum fits.
    exact : added (get_or xs t.taker (tenths 0)).0 amount.0 ≡ v t.taker + t.amount
    exact =
        let held = has t.taker named.taker in
        added_exact (get_or xs t.taker (tenths 0)).0 amount.0
        (omega (arith, held, small t.taker named.taker, is.1))
        ∙ omega (arith, held, is.0)

    -- 15 is what the test of the figures says.
    decided : unmet (get_or xs t.giver (tenths 0)) (get_or xs t.taker (tenths 0)) amount ≡ overdrawn v t
    unfolding overdrawn one_of
    decided = rw (has t.giver named.giver, exact, is.0, or-false)

    -- The array after both figures were written.
    written : {left raised : Tenths} → left.0 ≡ (get_or xs t.giver (tenths 0)).0 - amount.0
        → raised.0 ≡ added (get_or xs t.taker (tenths 0)).0 amount.0
        → Agrees 32 (tenths 0) (λ c. tenths (moved v t c)) (set (set xs t.giver left) t.taker raised)
    written {left} {raised} less plus =
        Agrees-set 32 (tenths 0) t.taker named.taker
        (ap tenths (plus ∙ exact ∙ sym (taker_moved v t named.apart)))
        (λ c b o. ap tenths (sym (moved_given v t c o)))
        (Agrees-set 32 (tenths 0) t.giver named.giver (ap tenths (lowered ∙ sym (given-giver v t)))
        (λ c b o. ap tenths (sym (given_other v t c o))) agrees)
      where
        lowered : left.0 ≡ v t.giver - t.amount
        lowered = omega (arith, less, has t.giver named.giver, is.0)

-- Entry i of a list whose entries all name two of the 32 consumers; those before it were met.
module _ (v : ℕ → ℕ) (within : (c : ℕ) → c < 32 → v c ≤ tenths_ceiling)
    (l : List ℕ) (names : AllNamed 32 l) (i : ℕ) (below : i < entries l)
    (met : any (overdrawn_at v l) i ≡ false)
    (xs : List Tenths) (agrees : Agrees 32 (tenths 0) (λ c. tenths (after_entries v l i c)) xs)
    {t : Transfer} (is_entry : t ≡ entry l i)
    {amount : Tenths} (is : (amount.0 ≡ t.amount) × (amount.0 ≤ most_word)) where
  named : Named 32 t
  named = rw is_entry (names i below)

  small : (c : ℕ) → c < 32 → after_entries v l i c ≤ tenths_ceiling
  small = after_within l 32 names v i (le_of_lt below) (any_clear _ i met) within i (le_refl _)

  test : unmet (get_or xs t.giver (tenths 0)) (get_or xs t.taker (tenths 0)) amount ≡ overdrawn_at v l i
  unfolding overdrawn_at
  test =
      decided (after_entries v l i) xs agrees small t named is
      ∙ ap (overdrawn (after_entries v l i)) is_entry

  -- It cannot be met: 15.
  pub refused : unmet (get_or xs t.giver (tenths 0)) (get_or xs t.taker (tenths 0)) amount ≡ true
      → 15 ≡ first_of (turn_tests v l)
  unfolding turn_tests first_of
  refused e = rw (any_hit (overdrawn_at v l) (entries l) i below (sym test ∙ e))

  -- It is met, and the array has the volumes after it.
  pub turned : unmet (get_or xs t.giver (tenths 0)) (get_or xs t.taker (tenths 0)) amount ≡ false
      → {left raised : Tenths} → left.0 ≡ (get_or xs t.giver (tenths 0)).0 - amount.0
      → raised.0 ≡ added (get_or xs t.taker (tenths 0)).0 amount.0
      → Agrees 32 (tenths 0) (λ c. tenths (after_entries v l (i + 1) c))
      (set (set xs t.giver left) t.taker raised)
      × (any (overdrawn_at v l) (i + 1) ≡ false)
  turned e less plus = (
    rw (after_more v l i, sym is_entry) (written (after_entries v l i) xs agrees small t named is less plus),
    any_more (overdrawn_at v l) i met (sym test ∙ e),
  )
