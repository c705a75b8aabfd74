-- What an entry answers, and what it leaves of a lent buffer. Assumes nothing.
use mathlib.Core.Path.{◌≡◌, refl, sym, ◌∙◌}
use mathlib.Core.Bool.{Bool, true, false, cond}
use mathlib.Core.List.{List, ◌++◌}
use Prim.Native.Nat.{ℕ}
use borrow.Author.Tests.{eqb-true, eq-eqb, ne_eqb}
use lib.Dec.{eqb}
use Rattle.rules.specs.Refusals.{Test, sheet_tests, first_of}
use Rattle.rules.specs.Outcome.{refused, written, answered, lent_after}
use Rattle.laws.proofs.Refusals.{first_stands, first_next, sheet_numbered}

-- The answer to a number, and to none.
module _ (number count : ℕ) where
  pub says_refused : (number ≡ 0 → ⊥) → answered number count ≡ refused number
  unfolding answered
  says_refused n = rw (ne_eqb _ _ n)

  pub says_written : number ≡ 0 → answered number count ≡ written count
  unfolding answered
  says_written none = rw (eq-eqb _ _ none)

-- A number, a lent buffer, and what the entry makes of it.
module _ (number : ℕ) (changed before : List ℕ) where
  pub kept : (number ≡ 0 → ⊥) → lent_after number changed before ≡ before
  unfolding lent_after
  kept n = rw (ne_eqb _ _ n)

  pub is_changed : number ≡ 0 → lent_after number changed before ≡ changed
  unfolding lent_after
  is_changed none = rw (eq-eqb _ _ none)

  -- What holds of the buffer as it was, and of the changed one, holds of the buffer afterwards.
  pub either : (P : List ℕ → Type 0) → (number ≡ 0 → P changed) → P before
      → P (lent_after number changed before)
  unfolding lent_after
  either P new old = go (eqb number 0) refl
    where
      go : (b : Bool) → eqb number 0 ≡ b → P (cond b changed before)
      go true e = new (eqb-true _ _ e)
      go false e = old

  -- Where no number applies, another change that is the same leaves the same buffer.
  pub same_after : (changed' : List ℕ) → (number ≡ 0 → changed' ≡ changed)
      → lent_after number changed' before ≡ lent_after number changed before
  unfolding lent_after
  same_after changed' same = go (eqb number 0) refl
    where
      go : (b : Bool) → eqb number 0 ≡ b → cond b changed' before ≡ cond b changed before
      go true e = same (eqb-true _ _ e)
      go false e = refl

  -- The answer to a refusal, and to a buffer that is changed, with the buffer afterwards.
  pub turned_down : {n : ℕ} (count : ℕ) → n ≡ number → (n ≡ 0 → ⊥)
      → (refused n ≡ answered number count) × (before ≡ lent_after number changed before)
  turned_down {n} count e p =
      let q : number ≡ 0 → ⊥ = λ z. p (e ∙ z) in
      (rw e (sym (says_refused number count q)), sym (kept q))

  pub let_through : (count : ℕ) → number ≡ 0
      → (written count ≡ answered number count) × (changed ≡ lent_after number changed before)
  let_through count none = (sym (says_written number count none), sym (is_changed none))

-- Entries that change a sheet: the sheet's own numbers, and then others.
module _ (s : List ℕ) (rest : List Test) (changed : List ℕ) where
  abbrev all : ℕ
  all = first_of (sheet_tests s ++ rest)

  pub own_refused : {n : ℕ} → n ≡ first_of (sheet_tests s) → (n ≡ 0 → ⊥)
      → (refused n ≡ answered all 0) × (s ≡ lent_after all changed s)
  own_refused e p = turned_down all changed s 0 (e ∙ first_stands (sheet_tests s) rest (sheet_numbered s) (λ z. p (e ∙ z))) p

  module _ (own : first_of (sheet_tests s) ≡ 0) where
    next : first_of rest ≡ all
    next = first_next (sheet_tests s) rest (sheet_numbered s) own

    pub rest_refused : {n : ℕ} → n ≡ first_of rest → (n ≡ 0 → ⊥)
        → (refused n ≡ answered all 0) × (s ≡ lent_after all changed s)
    rest_refused e p = turned_down all changed s 0 (e ∙ next) p

    pub none_refused : {n : ℕ} → n ≡ first_of rest → n ≡ 0
        → (written 0 ≡ answered all 0) × (changed ≡ lent_after all changed s)
    none_refused e z = let_through all changed s 0 (sym next ∙ sym e ∙ z)
