-- T after the cut over the rows so far, and one row more. Assumes nothing.
use mathlib.Core.Path.{◌≡◌, sym, ap, ◌∙◌}
use Prim.Native.Nat.{ℕ, ◌+◌, ◌-◌, ◌*◌, ◌≤◌}
use native.Mathlib.Omega.{arith}
use Rattle.rules.specs.declared.Row.{Row}
use Rattle.rules.specs.Range.{sum, when}
use Rattle.rules.specs.Month.{Month}
use Rattle.rules.specs.Cut.{support, own_support, excess, left_to_cut, after_cut}
use Rattle.laws.specs.Bounds.{most_word}
use Rattle.laws.proofs.Range.{sum_none, when-le}
use Rattle.laws.proofs.Cut.{left_own, left_other, support_own, support_other}
use Rattle.producers.specs.declared.cut.CutRows.{CutRows}
use Rattle.producers.specs.After.{cut_row}
use Rattle.producers.proofs.Cuts.{left_first}

-- When row j's turn comes: what is left to cut of producer p's rows, what its support rows before have after
-- the cut, and that it fits.
pub record CutSoFar (m : Month) (p j : ℕ) (c : CutRows) : Type 0 where
  pub left : c.left.0 ≡ left_to_cut m p j
  pub support : c.support.0 ≡ sum (own_support m (after_cut m) p) j
  pub few : c.support.0 ≤ most_word * j

pub cut_none : (m : Month) (p : ℕ) (c : CutRows) → c.left.0 ≡ excess m p → c.support.0 ≡ 0 → CutSoFar m p 0 c
cut_none m p c e none =
    record {
      left = e ∙ sym (left_first m p);
      support = none ∙ sym (sum_none (own_support m (after_cut m) p));
      few = omega (arith, none);
    }

module _ (m : Month) (p j : ℕ) {r : Row} (is : r ≡ m.row j) {c : CutRows} (k : CutSoFar m p j c) where
  -- The row after the cut, by what is left to cut when its turn comes.
  in_turn : (m.row j).producer ≡ p → r.volume - c.left.0 ≡ after_cut m j
  unfolding after_cut
  in_turn own = rw (is, k.left, own)

  pub cut_own : r.producer ≡ p → r.volume ≤ most_word → CutSoFar m p (j + 1) (cut_row c r)
  unfolding cut_row support
  cut_own e small =
      let own : (m.row j).producer ≡ p = ap (λ (x : Row). x.producer) (sym is) ∙ e in
      let after = in_turn own in
      let counts : when (support m j) (after_cut m j) ≤ most_word = omega (arith, when-le (support m j) (after_cut m j), after) in
      let more : c.support.0 + when (support m j) (after_cut m j) ≡ sum (own_support m (after_cut m) p) (j + 1) = omega (arith, k.support, support_own m p j own (after_cut m)) in
      record {
        left = rw (is, k.left) (sym (left_own m p j own));
        support = rw (after, is) more;
        few = rw (after, is) (omega (arith, k.few, counts));
      }

  pub cut_other : (r.producer ≡ p → ⊥) → CutSoFar m p (j + 1) c
  cut_other n =
      let other : (m.row j).producer ≡ p → ⊥ = λ e. n (ap (λ (x : Row). x.producer) is ∙ e) in
      record {
        left = k.left ∙ sym (left_other m p j other);
        support = k.support ∙ sym (support_other m p j other (after_cut m));
        few = omega (arith, k.few);
      }
