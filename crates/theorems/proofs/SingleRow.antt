-- The single row of a worse producer, of no larger volume after the cut: its volume × k1 × k4, as one
-- fraction, is no larger. Assumes nothing.
use mathlib.Core.Path.{◌≡◌, refl, ap, ◌∙◌}
use mathlib.Core.Bool.{Bool, true, false}
use Prim.Native.Nat.{ℕ, zero, suc, zero-le, ◌+◌, ◌*◌, ◌≤◌, ◌<◌, min}
use native.Mathlib.Nat.{
  zero-lt-suc,
  le-mul_of_pos_right,
  min-le_left,
  min-le_right,
  min-eq_left,
  min-eq_right,
  mul-le-mul,
  mul-le-mul_left,
  mul-le-mul_right,
  mul-sub,
}
use native.Mathlib.Omega.{arith}
use borrow.Author.Tests.{leb-true, leb-false}
use lib.Dec.{eqb, leb}
use Rattle.rules.specs.Range.{sum}
use Rattle.rules.specs.Units.{in_thousandths}
use Rattle.rules.specs.declared.Header.{Header}
use Rattle.rules.specs.declared.Row.{Row}
use Rattle.rules.specs.Month.{Producer, Month, hours}
use Rattle.rules.specs.Cut.{support, after_cut, single}
use Rattle.rules.specs.Coefficients.{
  penalty,
  exact_k1,
  asked,
  met_over,
  exact_k4,
  support_after,
  capacity_after,
}
use Rattle.rules.specs.Rows.{begun}
use Rattle.laws.specs.ShortForm.{kept, in_short}
use Rattle.laws.proofs.Range.{sum_mono, sum_times}
use Rattle.laws.proofs.Units.{rounded_none, rounded_mono, rounded_mono_over}
use Rattle.laws.proofs.Cut.{single_support, single_summed}
use Rattle.laws.proofs.Coefficients.{k4_part}
use Rattle.laws.proofs.Rows.{in_short_same}
use Rattle.theorems.specs.Demand3.{WorseProducer}
use Rattle.theorems.proofs.Producers.{penalty_up, asked_same, met_down}

-- What a smaller volume and a larger penalty keep is no more, and no larger part of the volume.
kept_down : (support : Bool) (v v' x x' : ℕ) → v' ≤ v → x ≤ x'
    → (kept support v' x' ≤ kept support v x) × (kept support v' x' * v ≤ kept support v x * v')
unfolding kept in_thousandths
kept_down true v v' x x' l k =
    (omega (arith, l, k), omega (arith, mul-sub v (v' * 100) x', mul-sub v' (v * 100) x, mul-le-mul k l))
kept_down false v v' zero zero l k = (omega (arith, l), omega arith)
kept_down false v v' (suc x) zero l k = absurd (omega (arith, k))
kept_down false v v' x (suc x') l k = (zero-le, omega arith)

-- In an hour of possible power q: what the smaller volume keeps, times what is asked with the larger, and the
-- other way round.
asked_times : (a a' v v' d q : ℕ) → a' ≤ a → a' * v ≤ a * v' → a' * min (v + d) q ≤ a * min (v' + d) q
asked_times a a' v v' d q l k = go (leb q (v' + d)) refl
  where
    most : a' * min (v + d) q ≤ a' * (v + d)
    most = mul-le-mul_left a' (min-le_left (v + d) q)

    go : (b : Bool) → leb q (v' + d) ≡ b → a' * min (v + d) q ≤ a * min (v' + d) q
    go true e = rw (min-eq_right (leb-true q (v' + d) e)) (mul-le-mul l (min-le_right (v + d) q))
    go false e =
        let low : v' + d ≤ q = omega (arith, leb-false q (v' + d) e) in
        rw (min-eq_left low) (omega (arith, most, k, mul-le-mul_right d l))

-- The short form, where what is kept, met and asked is no more, and neither is what is kept divided by what
-- is asked.
short_down : (met met' asked asked' : ℕ) {a a' : ℕ} → met' ≤ met → asked' ≤ asked → a' ≤ a
    → a' * asked ≤ a * asked'
    → in_short a' (met_over met' asked') ≤ in_short a (met_over met asked)
unfolding in_short met_over
short_down met met' zero zero m l k x = rounded_mono 1 (omega (arith, k))
short_down met met' zero (suc asked') m l k x = absurd (omega (arith, l))
short_down met met' (suc asked) zero {a} {a'} m l k x =
    let none : a' ≡ 0 = omega (arith, x, le-mul_of_pos_right a' (zero-lt-suc asked)) in
    rw none (omega (arith, rounded_none 1))
short_down met met' (suc asked) (suc asked') {a} {a'} m l k x =
    rounded_mono_over (a' * 1000 * met') (suc asked') (a * 1000 * met) (suc asked) (zero-lt-suc asked') (zero-lt-suc asked) (omega (arith, mul-le-mul x m))

-- One row of a worse producer, with no larger volume.
module _ (h : Header) (p p' : Producer) (w : WorseProducer (hours h) p p') (support : Bool) (v v' : ℕ) (l : v' ≤ v) where
  abbrev a : ℕ
  a = kept support v (penalty h p)

  abbrev a' : ℕ
  a' = kept support v' (penalty h p')

  keeps : (a' ≤ a) × (a' * v ≤ a * v')
  keeps = kept_down support v v' (penalty h p) (penalty h p') l (penalty_up h p p' w)

  asked_less : (d : ℕ) → sum (asked p (v' + d)) (hours h) ≤ sum (asked p (v + d)) (hours h)
  unfolding asked
  asked_less d = sum_mono _ _ refl (λ i b. omega (arith, l))

  kept_over_asked : (d : ℕ) → a' * sum (asked p (v + d)) (hours h) ≤ a * sum (asked p (v' + d)) (hours h)
  unfolding asked
  kept_over_asked d =
      sum_times _ _ _ _ (hours h) (λ i b. asked_times _ _ v v' d (p.possible i) keeps.0 keeps.1)

  short_fraction_down : (d : ℕ) → in_short a' (exact_k4 h p' (v' + d)) ≤ in_short a (exact_k4 h p (v + d))
  unfolding exact_k4
  short_fraction_down d =
      rw (asked_same h p p' w (v' + d))
      (short_down _ _ _ _ (met_down h p p' w (omega (arith, l))) (asked_less d) keeps.0 (kept_over_asked d))

-- The header, the row's kind and the deductible capacity may be two names of one.
fraction_down : {h h' : Header} {p p' : Producer} {support support' : Bool} {d d' : ℕ} (v v' : ℕ) → h' ≡ h
    → support' ≡ support → d' ≡ d
    → WorseProducer (hours h) p p' → v' ≤ v
    → in_short (kept support' v' (penalty h' p')) (exact_k4 h' p' (v' + d')) ≤ in_short (kept support v (penalty h p)) (exact_k4 h p (v + d))
fraction_down {h} {p = p} {p' = p'} {support = support} {d = d} v v' eh es ed w l =
    rw (eh, es, ed) (short_fraction_down h p p' w support v v' l d)

-- What a single row begins with, in its short form.
single_begun : (m : Month) (p : ℕ) → single m p ≡ true → (j : ℕ) → j < m.header.rows → (m.row j).producer ≡ p
    → begun m p (after_cut m j)
    ≡ in_short (kept (support m j) (after_cut m j) (penalty m.header (m.producer p)))
    (exact_k4 m.header (m.producer p) (after_cut m j + (m.producer p).deductible))
unfolding begun exact_k1 support_after capacity_after
single_begun m p one j l own =
    rw (one, single_support m p one j l own (after_cut m), single_summed m p one j l own (after_cut m))
    (in_short_same (support m j) (after_cut m j) (penalty m.header (m.producer p)) _ (k4_part m.header (m.producer p) _).1)

-- In two months with one header: the same row, no more of it left after the cut.
pub begun_down : (m m' : Month) → m'.header ≡ m.header
    → (p : ℕ) → single m p ≡ true → single m' p ≡ true
    → WorseProducer (hours m.header) (m.producer p) (m'.producer p)
    → (j : ℕ) → j < m.header.rows → (m.row j).producer ≡ p → m'.row j ≡ m.row j
    → after_cut m' j ≤ after_cut m j
    → begun m' p (after_cut m' j) ≤ begun m p (after_cut m j)
begun_down m m' e p one one' w j l own same less =
    let there : j < m'.header.rows = rw (ap (λ (h : Header). h.rows) e) l in
    let own' : (m'.row j).producer ≡ p = ap (λ (x : Row). x.producer) same ∙ own in
    rw (single_begun m p one j l own, single_begun m' p one' j there own')
    (fraction_down (after_cut m j) (after_cut m' j) e (unfold support in ap (λ (x : Row). eqb x.consumer 255) same) w.deductible w less)
