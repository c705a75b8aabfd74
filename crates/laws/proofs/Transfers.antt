-- Transfers: what a list keeps to that is not refused, and what its entries do to contract volumes. Assumes
-- nothing.
use mathlib.Core.Path.{◌≡◌, refl, sym, ◌∙◌}
use mathlib.Core.Bool.{Bool, true, false, cond}
use mathlib.Core.List.{List}
use Prim.Native.Nat.{ℕ, zero, suc, ◌+◌, ◌-◌, ◌≤◌, ◌<◌}
use native.Mathlib.Numerals.{add-one}
use native.Mathlib.Omega.{arith}
use borrow.Author.Tests.{ltb-false, leb-false, eqb-true, eqb-false, ne_eqb, eq-eqb}
use lib.Dec.{T, eqb}
use Rattle.rules.specs.declared.Transfer.{Transfer}
use Rattle.rules.specs.Range.{sum, any}
use Rattle.rules.specs.Units.{tenths_ceiling}
use Rattle.rules.specs.Limits.{FormLimits, MonthLimits}
use Rattle.rules.specs.Sheet.{header_of, month_of}
use Rattle.rules.specs.Refusals.{sheet_tests, first_of, applies}
use Rattle.rules.specs.TransferList.{entries, entry}
use Rattle.rules.specs.Transfers.{
  bad_entry,
  moved,
  after_entries,
  overdrawn,
  overdrawn_at,
  contracts,
  list_tests,
  turn_tests,
  transfer_tests,
  transfer_refusal,
}
use Rattle.laws.proofs.Range.{any_clear, any_same, sum_one}
use Rattle.laws.proofs.Refusals.{
  numbered,
  none_applies,
  first_both,
  none_of,
  high_clear,
  sheet_numbered,
  sheet_limits,
}

-- An entry that 13 lets pass, among so many consumers.
pub record Named (consumers : ℕ) (t : Transfer) : Type 0 where
  pub giver : t.giver < consumers
  pub taker : t.taker < consumers
  pub apart : t.giver ≡ t.taker → ⊥

entry_named : (consumers : ℕ) (t : Transfer) → bad_entry consumers t ≡ false → Named consumers t
unfolding bad_entry
entry_named consumers t e =
    let a = none_of _ e in
    record {
      giver = leb-false _ _ a.1.1.0;
      taker = leb-false _ _ a.1.1.1.0;
      apart = eqb-false _ _ a.1.1.1.1.0;
    }

-- An entry that can be met: the giver has the amount, and the taker has room for it.
pub met : (v : ℕ → ℕ) (t : Transfer) → overdrawn v t ≡ false
    → (t.amount ≤ v t.giver) × (v t.taker + t.amount ≤ tenths_ceiling)
unfolding overdrawn
met v t e = let a = none_of _ e in (ltb-false _ _ a.0, high_clear _ a.1.0)

-- What an entry leaves of its taker and of its giver.
module _ (v : ℕ → ℕ) (t : Transfer) where
  pub taker_moved : (t.giver ≡ t.taker → ⊥) → moved v t t.taker ≡ v t.taker + t.amount
  unfolding moved
  taker_moved n = rw (ne_eqb t.taker t.giver (λ e. n (sym e)), eq-eqb t.taker t.taker refl)

  -- The volumes once the giver has given: only the taker's differs from what the entry leaves.
  pub given : ℕ → ℕ
  given c = cond (eqb c t.giver) (v c - t.amount) (v c)

  pub given-giver : given t.giver ≡ v t.giver - t.amount
  unfolding given
  given-giver = rw (eq-eqb t.giver t.giver refl)

  pub given_other : (c : ℕ) → (c ≡ t.giver → ⊥) → given c ≡ v c
  unfolding given
  given_other c g = rw (ne_eqb c t.giver g)

  pub moved_given : (c : ℕ) → (c ≡ t.taker → ⊥) → moved v t c ≡ given c
  unfolding moved given
  moved_given c o = rw (ne_eqb c t.taker o)

-- The same volumes below a count, as far as an entry that names consumers below it can tell.
module _ (v w : ℕ → ℕ) (n : ℕ) (same : (c : ℕ) → c < n → v c ≡ w c) (t : Transfer) where
  moved_same : (c : ℕ) → c < n → moved v t c ≡ moved w t c
  unfolding moved
  moved_same c l = rw (same c l)

  overdrawn_same : Named n t → overdrawn v t ≡ overdrawn w t
  unfolding overdrawn
  overdrawn_same k = rw (same _ k.giver, same _ k.taker)

-- An entry that is met keeps the sum of the first n volumes, and each below the ceiling.
module _ (v : ℕ → ℕ) (n : ℕ) (t : Transfer) (k : Named n t) (fair : overdrawn v t ≡ false) where
  sum_moved : sum (moved v t) n ≡ sum v n
  sum_moved =
      let a = met v t fair in
      let lowered : sum (given v t) n + v t.giver ≡ sum v n + given v t t.giver = sum_one (given v t) v t.giver n k.giver (λ c b g. given_other v t c g) in
      let raised : sum (moved v t) n + given v t t.taker ≡ sum (given v t) n + moved v t t.taker = sum_one (moved v t) (given v t) t.taker n k.taker (λ c b o. moved_given v t c o) in
      omega (
        arith,
        a.0,
        given-giver v t,
        given_other v t t.taker (λ e. k.apart (sym e)),
        taker_moved v t k.apart,
      )

  moved_within : ((c : ℕ) → c < n → v c ≤ tenths_ceiling) → (c : ℕ) → c < n → moved v t c ≤ tenths_ceiling
  unfolding moved
  moved_within w c l = go (eqb c t.giver) (eqb c t.taker) refl
    where
      go : (a b : Bool) → eqb c t.taker ≡ b
          → cond a (v c - t.amount) (cond b (v c + t.amount) (v c)) ≤ tenths_ceiling
      go true b e = omega (arith, w c l)
      go false true e = rw (eqb-true c t.taker e) (met v t fair).1
      go false false e = w c l

-- One entry more.
pub after_more : (v : ℕ → ℕ) (l : List ℕ) (i : ℕ)
    → after_entries v l (i + 1) ≡ moved (after_entries v l i) (entry l i)
unfolding after_entries
after_more v l i = rw add-one

-- A list whose entries all name consumers below a count.
abbrev pub AllNamed : ℕ → List ℕ → Type 0
AllNamed n l = (i : ℕ) → i < entries l → Named n (entry l i)

module _ (l : List ℕ) (count : ℕ) (names : AllNamed count l) where
  -- Two months with the same contract volumes.
  module _ (v w : ℕ → ℕ) (same : (c : ℕ) → c < count → v c ≡ w c) where
    pub after_same : (i : ℕ) (c : ℕ) → c < count → after_entries v l i c ≡ after_entries w l i c
    unfolding after_entries
    after_same zero c b = same c b
    after_same (suc i) c b =
        moved_same (after_entries v l i) (after_entries w l i) count (after_same i) (entry l i) c b

    pub turns_same : any (overdrawn_at v l) (entries l) ≡ any (overdrawn_at w l) (entries l)
    unfolding overdrawn_at
    turns_same = any_same _ _ (entries l) (λ i b. overdrawn_same (after_entries v l i) (after_entries w l i) count (after_same i) (entry l i) (names i b))

  -- The first n entries can be met.
  module _ (v : ℕ → ℕ) (n : ℕ) (few : n ≤ entries l) (fair : (i : ℕ) → i < n → overdrawn_at v l i ≡ false) where
    turn : (i : ℕ) → i < n → overdrawn (after_entries v l i) (entry l i) ≡ false
    turn i b = unfold overdrawn_at in fair i b

    pub sum_after : (i : ℕ) → i ≤ n → sum (after_entries v l i) count ≡ sum v count
    unfolding after_entries
    sum_after zero b = refl
    sum_after (suc i) b =
        sum_moved (after_entries v l i) count (entry l i) (names i (omega arith)) (turn i (omega arith)) ∙ sum_after i (omega arith)

    pub after_within : ((c : ℕ) → c < count → v c ≤ tenths_ceiling) → (i : ℕ) → i ≤ n → (c : ℕ) → c < count
        → after_entries v l i c ≤ tenths_ceiling
    unfolding after_entries
    after_within w zero b c q = w c q
    after_within w (suc i) b c q =
        moved_within (after_entries v l i) count (entry l i) (names i (omega arith)) (turn i (omega arith)) (after_within w i (omega arith)) c q

-- What a list keeps to that none of 13 to 15 refuses, for a sheet with so many consumers and these contract
-- volumes.
pub record ListLimits (consumers : ℕ) (v : ℕ → ℕ) (l : List ℕ) : Type 0 where
  pub names : AllNamed consumers l
  pub fair : (i : ℕ) → i < entries l → overdrawn_at v l i ≡ false

pub list_numbered : (consumers : ℕ) (l : List ℕ) → T (numbered (list_tests consumers l))
unfolding list_tests
list_numbered consumers l = tt

pub names_clear : (consumers : ℕ) (l : List ℕ) → first_of (list_tests consumers l) ≡ 0 → AllNamed consumers l
unfolding list_tests applies
names_clear consumers l e i b =
    entry_named _ _ (any_clear _ _ (none_of _ (none_applies (list_tests consumers l) tt e 13)).1.0 i b)

turns_clear : (v : ℕ → ℕ) (l : List ℕ) → first_of (turn_tests v l) ≡ 0 → (i : ℕ) → i < entries l
    → overdrawn_at v l i ≡ false
unfolding turn_tests applies
turns_clear v l e = any_clear _ _ (none_applies (turn_tests v l) tt e 15)

-- A list that is applied: the sheet keeps to its limits, and so does the list.
pub applied_limits : (s l : List ℕ) → transfer_refusal s l ≡ 0
    → (FormLimits s × MonthLimits (month_of s)) × ListLimits (header_of s).consumers (contracts (month_of s)) l
unfolding transfer_refusal transfer_tests
applied_limits s l e =
    let both = first_both (sheet_tests s) _ (sheet_numbered s) e in
    let rest = first_both (list_tests (header_of s).consumers l) (turn_tests (contracts (month_of s)) l) (list_numbered (header_of s).consumers l) both.1 in (
      sheet_limits s both.0,
      record {
        names = names_clear (header_of s).consumers l rest.0;
        fair = turns_clear (contracts (month_of s)) l rest.1;
      },
    )
