-- The cut is the one taken row by row, and never adds; what it leaves in all, and of a single row. Assumes
-- nothing.
use mathlib.Core.Path.{◌≡◌, refl, sym, ap, ◌∙◌}
use mathlib.Core.Bool.{Bool, true, false, cond, ◌&&◌}
use mathlib.Core.List.{List, [], ◌∷◌, ◌++◌, append-nil}
use Prim.Native.Nat.{ℕ, zero, suc, ◌+◌, ◌-◌, ◌≤◌, ◌<◌, min}
use native.Mathlib.Nat.{add-zero, sub-le}
use native.Mathlib.Omega.{arith}
use borrow.Author.Tests.{eqb-true, eq-eqb, ne_eqb}
use lib.Dec.{eqb}
use Rattle.rules.specs.Range.{sum, when}
use Rattle.rules.specs.Month.{Month}
use Rattle.rules.specs.Cut.{
  owns,
  support,
  bilateral,
  sold,
  own_volume,
  own_support,
  own_bilateral,
  support_volume,
  bilateral_volume,
  summed_capacity,
  excess,
  left_to_cut,
  after_cut,
  row_count,
  single,
  cut_in_order,
  own_rows,
}
use Rattle.laws.specs.ShortForm.{left_after_cut}
use Rattle.laws.proofs.Range.{
  sum_more,
  sum_mono,
  sum_same,
  one_passed,
  sum_only,
  one_found,
  when_mono,
  when_both,
  when_split,
}

-- The turn of a loop over the rows: a row of its own gives as much as it has and counts in T, another's does
-- neither.
module _ (m : Month) (p j : ℕ) where
  left_more : left_to_cut m p (j + 1) ≡ left_to_cut m p j - own_volume m (sold m) p j
  unfolding left_to_cut
  left_more = omega (arith, sum_more (own_volume m (sold m) p) j)

  module _ (own : (m.row j).producer ≡ p) where
    pub left_own : left_to_cut m p (j + 1) ≡ left_to_cut m p j - (m.row j).volume
    unfolding own_volume owns when
    left_own = left_more ∙ rw (eq-eqb _ _ own)

    pub support_own : (v : ℕ → ℕ)
        → sum (own_support m v p) (j + 1) ≡ sum (own_support m v p) j + when (support m j) (v j)
    unfolding own_support owns
    support_own v = sum_more (own_support m v p) j ∙ rw (eq-eqb _ _ own)

  module _ (other : (m.row j).producer ≡ p → ⊥) where
    pub left_other : left_to_cut m p (j + 1) ≡ left_to_cut m p j
    unfolding own_volume owns when
    left_other = left_more ∙ rw (ne_eqb _ _ other) (omega arith)

    pub support_other : (v : ℕ → ℕ) → sum (own_support m v p) (j + 1) ≡ sum (own_support m v p) j
    unfolding own_support owns when
    support_other v = sum_more (own_support m v p) j ∙ rw (ne_eqb _ _ other, add-zero)

pub cut_le_volume : (m : Month) (j : ℕ) → after_cut m j ≤ (m.row j).volume
unfolding after_cut
cut_le_volume m j = sub-le (m.row j).volume (left_to_cut m (m.row j).producer j)

-- One volume more at the end meets what the others left.
total : List ℕ → ℕ
total [] = 0
total (v ∷ vs) = v + total vs

cut_last : (left : ℕ) (vs : List ℕ) (v : ℕ)
    → cut_in_order left (vs ++ (v ∷ [])) ≡ cut_in_order left vs ++ ((v - (left - total vs)) ∷ [])
unfolding cut_in_order total
cut_last left [] v = let e : v - min v left ≡ v - (left - 0) = omega arith in ap (λ (x : ℕ). x ∷ []) e
cut_last left (u ∷ us) v =
    let e : left - min u left - total us ≡ left - (u + total us) = omega arith in
    ap (λ (xs : List ℕ). (u - min u left) ∷ xs)
    (cut_last (left - min u left) us v ∙ ap (λ (x : ℕ). cut_in_order (left - min u left) us ++ ((v - x) ∷ [])) e)

total_last : (vs : List ℕ) (v : ℕ) → total (vs ++ (v ∷ [])) ≡ total vs + v
unfolding total
total_last [] v = omega arith
total_last (u ∷ us) v = omega (arith, total_last us v)

module _ (m : Month) (p : ℕ) where
  own_total : (n : ℕ) → total (own_rows m p (sold m) n) ≡ sum (own_volume m (sold m) p) n
  unfolding own_rows sum own_volume when total
  own_total zero = refl
  own_total (suc n) = go (owns m p n) (own_total n)
    where
      go : (b : Bool) → total (own_rows m p (sold m) n) ≡ sum (own_volume m (sold m) p) n
          → total (own_rows m p (sold m) n ++ cond b (sold m n ∷ []) []) ≡ sum (own_volume m (sold m) p) n + cond b (sold m n) 0
      go true e = omega (arith, total_last (own_rows m p (sold m) n) (sold m n), e)
      go false e = rw append-nil (omega (arith, e))

  pub row_by_row : (n : ℕ)
      → own_rows m p (after_cut m) n ≡ cut_in_order (excess m p) (own_rows m p (sold m) n)
  unfolding own_rows cut_in_order owns
  row_by_row zero = refl
  row_by_row (suc n) = go (eqb (m.row n).producer p) refl (row_by_row n)
    where
      own : List ℕ
      own = own_rows m p (sold m) n

      cut : List ℕ
      cut = own_rows m p (after_cut m) n

      kept : (m.row n).producer ≡ p → after_cut m n ≡ sold m n - (excess m p - total own)
      kept q = unfold after_cut left_to_cut in rw (q, own_total n)

      go : (b : Bool) → eqb (m.row n).producer p ≡ b → cut ≡ cut_in_order (excess m p) own
          → cut ++ cond b (after_cut m n ∷ []) [] ≡ cut_in_order (excess m p) (own ++ cond b (sold m n ∷ []) [])
      go true q e = rw (cut_last, kept (eqb-true _ _ q), e)
      go false q e = append-nil cut ∙ e ∙ ap (cut_in_order (excess m p)) (sym (append-nil own))

-- What the cut leaves in all.
module _ (m : Month) (p : ℕ) where
  -- A producer's support and bilateral rows are all its rows.
  pub own_split : (v : ℕ → ℕ) (n : ℕ)
      → sum (own_volume m v p) n ≡ sum (own_support m v p) n + sum (own_bilateral m v p) n
  unfolding sum own_volume own_support own_bilateral bilateral
  own_split v zero = refl
  own_split v (suc n) = omega (arith, own_split v n, when_split (owns m p n) (support m n) (v n))

  -- A row of its own, by what the rows before it left of the excess.
  pub own_after : (j : ℕ) → (m.row j).producer ≡ p
      → after_cut m j ≡ (m.row j).volume - (excess m p - sum (own_volume m (sold m) p) j)
  unfolding after_cut left_to_cut
  own_after j e = rw e

  pub total_after : (n : ℕ)
      → sum (own_volume m (after_cut m) p) n ≡ sum (own_volume m (sold m) p) n - excess m p
  unfolding sum own_volume owns when
  total_after zero = omega arith
  total_after (suc n) = go (eqb (m.row n).producer p) refl (total_after n)
    where
      go : (b : Bool) → eqb (m.row n).producer p ≡ b
          → sum (own_volume m (after_cut m) p) n ≡ sum (own_volume m (sold m) p) n - excess m p
          → sum (own_volume m (after_cut m) p) n + cond b (after_cut m n) 0 ≡ sum (own_volume m (sold m) p) n + cond b (m.row n).volume 0 - excess m p
      go true q e = omega (arith, e, own_after n (eqb-true _ _ q))
      go false q e = omega (arith, e)

  -- S after the cut.
  pub summed_after : summed_capacity m (after_cut m) p ≡ left_after_cut m p + (m.producer p).deductible
  unfolding summed_capacity support_volume bilateral_volume
  summed_after =
      let n = m.header.rows in omega (arith, own_split (after_cut m) n, own_split (sold m) n, total_after n)

  -- The cut adds nothing to T.
  pub support_le : support_volume m (after_cut m) p ≤ support_volume m (sold m) p
  unfolding support_volume own_support
  support_le = sum_mono _ _ refl (λ j l. when_mono _ (cut_le_volume m j))

  -- Without bilateral rows all of it is T.
  pub support_all : bilateral_volume m (sold m) p ≡ 0 → support_volume m (after_cut m) p ≡ left_after_cut m p
  unfolding support_volume bilateral_volume
  support_all none =
      let n = m.header.rows in
      let less = sum_mono (own_bilateral m (after_cut m) p) (own_bilateral m (sold m) p) {n = n} refl (λ j l. unfold own_bilateral in when_mono _ (cut_le_volume m j)) in
      omega (arith, own_split (after_cut m) n, own_split (sold m) n, total_after n, less, none)

  -- Where there is no excess T is as it was.
  pub support_kept : excess m p ≡ 0 → support_volume m (after_cut m) p ≡ support_volume m (sold m) p
  unfolding support_volume own_support owns
  support_kept none = sum_same _ _ refl (λ j l. kept j (eqb (m.row j).producer p) refl)
    where
      kept : (j : ℕ) (b : Bool) → eqb (m.row j).producer p ≡ b
          → when (b && support m j) (after_cut m j) ≡ when (b && support m j) (m.row j).volume
      kept j true q = ap (when (support m j)) (own_after j (eqb-true _ _ q) ∙ omega (arith, none))
      kept j false q = unfold when in refl

-- A producer that has a row has at least one.
pub own_counted : (m : Month) (p j : ℕ) → j < m.header.rows → (m.row j).producer ≡ p → 1 ≤ row_count m p
unfolding row_count owns
own_counted m p j l own = one_passed (owns m p) j m.header.rows l (eq-eqb _ _ own)

-- A producer's single row: its volume is T + B, and of T and B the one that its kind has.
module _ (m : Month) (p : ℕ) (alone : single m p ≡ true) (j : ℕ) (l : j < m.header.rows) (own : (m.row j).producer ≡ p) where
  its : owns m p j ≡ true
  unfolding owns
  its = eq-eqb _ _ own

  counted : row_count m p ≡ 1
  unfolding single
  counted = eqb-true _ _ alone

  pub single_own : (v : ℕ → ℕ) → sum (own_volume m v p) m.header.rows ≡ v j
  unfolding own_volume row_count
  single_own v = sum_only (owns m p) v j m.header.rows l its counted

  pub single_support : (v : ℕ → ℕ) → support_volume m v p ≡ when (support m j) (v j)
  unfolding support_volume own_support row_count
  single_support v =
      sum_same _ _ refl (λ i b. when_both (owns m p i) (support m i) (v i))
      ∙ sum_only (owns m p) (λ i. when (support m i) (v i)) j m.header.rows l its counted

  pub single_summed : (v : ℕ → ℕ) → summed_capacity m v p ≡ v j + (m.producer p).deductible
  unfolding summed_capacity support_volume bilateral_volume
  single_summed v = omega (arith, own_split m p v m.header.rows, single_own v)

  -- The whole cut is its own.
  pub single_after : after_cut m j ≡ left_after_cut m p
  unfolding support_volume bilateral_volume
  single_after =
      let n = m.header.rows in
      omega (arith, single_own (after_cut m), total_after m p n, own_split m p (sold m) n)

-- A single bilateral row has T 0.
pub single_bilateral : (m : Month) (p : ℕ) → single m p ≡ true → 0 < bilateral_volume m (sold m) p
    → support_volume m (after_cut m) p ≡ 0
unfolding single row_count owns
single_bilateral m p alone some = one_found (owns m p) m.header.rows (eqb-true _ _ alone) (λ j l t. of_kind j l (eqb-true _ _ t) (support m j) refl)
  where
    of_kind : (j : ℕ) → j < m.header.rows → (m.row j).producer ≡ p → (b : Bool) → support m j ≡ b
        → support_volume m (after_cut m) p ≡ 0
    of_kind j l own true kind = absurd (unfold summed_capacity in omega (arith, single_summed m p alone j l own (sold m), supported, some))
      where
        supported : support_volume m (sold m) p ≡ (m.row j).volume
        supported = single_support m p alone j l own (sold m) ∙ unfold when in rw kind
    of_kind j l own false kind = single_support m p alone j l own (after_cut m) ∙ unfold when in rw kind
