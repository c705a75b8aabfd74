-- Averages, shares and k1 as rounded quotients; no coefficient is above 1. Assumes nothing.
use mathlib.Core.Path.{◌≡◌, refl, sym, ap, ◌∙◌}
use mathlib.Core.List.{List, [], ◌∷◌}
use Prim.Native.Nat.{ℕ, zero, suc, zero-le, ◌-◌, ◌*◌, ◌≤◌, ◌<◌}
use native.Mathlib.Nat.{le_refl, sub-le, zero-lt-suc, mul-le-mul_left}
use native.Mathlib.Omega.{arith}
use Rattle.rules.specs.Units.{rounded, one, in_thousandths}
use Rattle.rules.specs.ControlHours.{average}
use Rattle.rules.specs.declared.Header.{Header}
use Rattle.rules.specs.declared.Ratio.{Ratio}
use Rattle.rules.specs.Month.{Producer, hours}
use Rattle.rules.specs.Limits.{ProducerLimits}
use Rattle.rules.specs.Coefficients.{
  ratio,
  share,
  millionths_of,
  penalty,
  less_penalty,
  exact_k1,
  k1,
  k2,
  asked,
  met,
  met_over,
  exact_k4,
  k4,
  k5,
  from_k5,
  in_order,
  others,
}
use Rattle.laws.proofs.Range.{sum_mono}
use Rattle.laws.proofs.Units.{rounded_over_0, rounded_at_most, rounded_times}

-- The zero rules apart: an average is a rounded quotient, a ratio too, and a penalty of what T has.
pub average_is : (total n : ℕ) → average total n ≡ rounded total n
unfolding average
average_is total zero = sym (rounded_over_0 total)
average_is total (suc n) = refl

-- An average is not above what none of its figures is above, in units of any fineness.
pub average_at_most : (fineness most n : ℕ) {total : ℕ} → total ≤ most * n
    → average (fineness * total) n ≤ fineness * most
average_at_most fineness most n l =
    rw average_is (rounded_at_most (fineness * most) n (omega (arith, mul-le-mul_left fineness l)))

pub ratio_is : (r : Ratio) → millionths_of r ≡ rounded (r.part * one) r.whole
unfolding millionths_of share
ratio_is r = refl

pub penalty_of_none : (x : ℕ) → (x ≡ 0 → ⊥) → less_penalty 0 x ≡ ratio 0 1
unfolding less_penalty
penalty_of_none zero n = absurd (n refl)
penalty_of_none (suc x) n = refl

pub penalty_of_some : (T x : ℕ) → 0 < T → less_penalty T x ≡ ratio (in_thousandths T - x) (in_thousandths T)
unfolding less_penalty
penalty_of_some zero x l = absurd (omega arith)
penalty_of_some (suc T) x l = refl

-- So k1 of some T, with a hundred taken out of T in thousandths and out of the million.
pub penalty_rounded : (T x : ℕ) → 0 < T
    → millionths_of (less_penalty T x) ≡ rounded ((in_thousandths T - x) * 10000) T
unfolding in_thousandths
penalty_rounded T x l =
    let part : (T * 100 - x) * one ≡ (T * 100 - x) * 10000 * 100 = omega arith in
    ap millionths_of (penalty_of_some T x l) ∙ ratio_is _ ∙ ap (λ (n : ℕ). rounded n (T * 100)) part ∙ rounded_times 100 _ T (omega arith) l

-- A ratio of at most 1: k1 and k4 before they are rounded.
abbrev pub Part : Ratio → Type 0
Part r = (r.part ≤ r.whole) × (0 < r.whole)

pub share_at_most : (whole : ℕ) {part : ℕ} → part ≤ whole → share part whole ≤ one
unfolding share
share_at_most whole h = rounded_at_most one whole (omega arith)

penalty_part : (T x : ℕ) → Part (less_penalty T x)
unfolding less_penalty in_thousandths
penalty_part zero zero = (le_refl 1, le_refl 1)
penalty_part zero (suc x) = (zero-le, le_refl 1)
penalty_part (suc T) x = (sub-le (suc T * 100) x, omega arith)

met_part : (met asked : ℕ) → met ≤ asked → Part (met_over met asked)
unfolding met_over
met_part met zero h = (le_refl 1, le_refl 1)
met_part met (suc asked) h = (h, zero-lt-suc asked)

pub met-le : (p : Producer) (S i : ℕ) → met p S i ≤ asked p S i
unfolding met
met-le p S i = omega arith

module _ (h : Header) (p : Producer) where
  pub k1_part : (T : ℕ) → Part (exact_k1 h p T)
  unfolding exact_k1
  k1_part T = penalty_part T (penalty h p)

  pub k4_part : (S : ℕ) → Part (exact_k4 h p S)
  unfolding exact_k4
  k4_part S = met_part _ _ (sum_mono (met p S) (asked p S) refl (λ i l. met-le p S i))

  pub k1_at_most : (T : ℕ) → k1 h p T ≤ one
  unfolding k1 millionths_of
  k1_at_most T = share_at_most _ (k1_part T).0

  pub k2_at_most : k2 h p ≤ one
  unfolding k2
  k2_at_most = share_at_most (hours h) (sub-le (hours h) _)

  pub k4_at_most : (S : ℕ) → k4 h p S ≤ one
  unfolding k4 millionths_of
  k4_at_most S = share_at_most _ (k4_part S).0

  pub k5_at_most : k5 h p ≤ one
  unfolding k5
  k5_at_most = share_at_most (hours h) (sub-le (hours h) _)

-- None of a list of coefficients is above 1.
pub data AtMost1 : List ℕ → Type 0 where
  end : AtMost1 []
  each : {k : ℕ} {ks : List ℕ} → k ≤ one → AtMost1 ks → AtMost1 (k ∷ ks)

module _ (h : Header) (p : Producer) (l : ProducerLimits h p) where
  from_k5_at_most : AtMost1 (from_k5 h p)
  unfolding from_k5
  from_k5_at_most = each (k5_at_most h p) (each l.k6 (each l.k7 (each l.k8 (each l.k9 (each l.k10 end)))))

  pub in_order_at_most : (T S : ℕ) → AtMost1 (in_order h p T S)
  unfolding in_order
  in_order_at_most T S =
      each (k1_at_most h p T) (each (k2_at_most h p) (each l.k3 (each (k4_at_most h p S) from_k5_at_most)))

  pub others_at_most : AtMost1 (others h p)
  unfolding others
  others_at_most = each (k2_at_most h p) (each l.k3 from_k5_at_most)
