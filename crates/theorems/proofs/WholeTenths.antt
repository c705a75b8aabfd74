-- Where an average is rounded to a whole number of tenths, k1 in hundredths is k1 in tenths. Assumes nothing.
use mathlib.Core.Path.{◌≡◌, refl, sym, ap, ap₂, ◌∙◌}
use Prim.Native.Nat.{ℕ, zero, suc, ◌-◌, ◌*◌}
use native.Mathlib.Nat.{zero-lt-suc, div-eq_of_lt-le}
use native.Mathlib.Omega.{arith}
use Rattle.rules.specs.declared.Header.{Header}
use Rattle.rules.specs.Units.{rounded, one, tenth, hundredth, in_hundredths, in_thousandths}
use Rattle.rules.specs.Month.{Producer}
use Rattle.rules.specs.ControlHours.{control_sum, control_count, average, control_average}
use Rattle.rules.specs.Bands.{band_of, thousandths}
use Rattle.rules.specs.Coefficients.{ratio, millionths_of, overuse, penalty, less_penalty, exact_k1, k1}
use Rattle.laws.proofs.Units.{Nearest, nearest, rounded_times}
use Rattle.laws.proofs.Bands.{thousandths_times}
use Rattle.laws.proofs.Coefficients.{ratio_is, penalty_of_none}
use Rattle.theorems.specs.Request6.{
  tenths_over,
  tenths_penalty,
  less_tenths_penalty,
  k1_by_tenths,
  WholeTenths,
}

-- What is rounded to a whole number of tenths at a hundredth is rounded to that number at a tenth.
coarse : (s n tenths : ℕ) → average (hundredth * s) n ≡ tenths * 10 → average (tenth * s) n ≡ tenths
unfolding average
coarse s zero tenths e = omega (arith, e)
coarse s (suc n) tenths e =
    let r : Nearest (hundredth * s) (suc n) (tenths * 10) = rw e at (nearest (hundredth * s) (suc n) (zero-lt-suc n)) in
    unfold rounded in div-eq_of_lt-le (suc n) (omega (arith, r.from)) (omega (arith, r.below))

-- Ten times the penalty, of T in thousandths, leaves the same part of it.
penalty_tenfold : (T x : ℕ)
    → millionths_of (less_penalty T (x * 10)) ≡ millionths_of (less_tenths_penalty T x)
penalty_tenfold zero zero = unfold less_penalty less_tenths_penalty in refl
penalty_tenfold zero (suc x) =
    unfold less_tenths_penalty in ap millionths_of (penalty_of_none (suc x * 10) (λ e. absurd (omega (arith, e))))
penalty_tenfold (suc T) x =
    unfold less_penalty less_tenths_penalty in_thousandths in
    (let part : (suc T * 100 - x * 10) * one ≡ (10 * suc T - x) * one * 10 = omega arith in
    let whole : suc T * 100 ≡ 10 * suc T * 10 = omega arith in
    ratio_is (ratio (suc T * 100 - x * 10) (suc T * 100))
    ∙ ap₂ rounded part whole
    ∙ rounded_times 10 ((10 * suc T - x) * one) (10 * suc T) (omega arith) (omega arith)
    ∙ sym (ratio_is (ratio (10 * suc T - x) (10 * suc T))))

module _ (h : Header) (p : Producer) (tenths : ℕ) (w : WholeTenths h p tenths) where
  over_tenfold : overuse h p ≡ tenths_over h p * 10
  unfolding overuse tenths_over control_average in_hundredths
  over_tenfold = omega (arith, w, coarse (control_sum h p.outside_use) (control_count h) tenths w)

  penalties : penalty h p ≡ tenths_penalty h p * 10
  unfolding penalty tenths_penalty in_hundredths
  penalties =
      let band : band_of (thousandths (tenths_over h p * 10) (p.deductible * 10)) ≡ band_of (thousandths (tenths_over h p) p.deductible) =
      ap band_of (thousandths_times 10 (tenths_over h p) p.deductible (omega arith)) in
      rw (over_tenfold, band) (omega arith)

  pub same : (T : ℕ) → k1 h p T ≡ k1_by_tenths h p T
  unfolding k1 exact_k1 k1_by_tenths
  same T = ap (λ (x : ℕ). millionths_of (less_penalty T x)) penalties ∙ penalty_tenfold T (tenths_penalty h p)
