-- What the figures of hours are, with a power above the ceiling and without one.
use Rattle.std.proofs.Common.{◌≡◌, ℕ, Bool, true, false, cond, List, Result, refl, sym, ap, true≢false}
use Rattle.std.specs.Prelude.Result.{Ok, Err}
use Rattle.rules.specs.declared.HourSeries.{HourSeries}
use Rattle.rules.specs.declared.Refusal.{Refusal}
use Rattle.rules.specs.Units.{hundredth}
use Rattle.units.specs.Sums.{hundredths}
use Rattle.refusals_powers.specs.Powers.{high_powers}
use Rattle.hours.specs.declared.figures.HourFigures.{HourFigures}
use Rattle.hours.specs.declared.k4.K4.{K4}
use Rattle.hours.specs.Sums.{k4_in}
use Rattle.hours.specs.Control.{power_control, average_of}
use Rattle.hours.specs.Figures.{tried_sums, hour_figures}

-- Number 9, or a figure.
module _ {A : Type 0} (figure : A) where
  abbrev tried : Bool → Result A Refusal
  tried high = cond high (Err Refusal.AboveCeiling) (Ok figure)

  is_ok : Result A Refusal → Bool
  is_ok (Ok x) = true
  is_ok (Err r) = false

  figure_or : Result A Refusal → A
  figure_or (Ok x) = x
  figure_or (Err r) = figure

  low : {x : A} (high : Bool) → tried high ≡ Ok x → (high ≡ false) × (x ≡ figure)
  unfolding is_ok figure_or
  low true e = absurd (true≢false (sym (ap is_ok e)))
  low false e = (refl, sym (ap figure_or e))

  refusal_or : Refusal → Result A Refusal → Refusal
  refusal_or other (Ok x) = other
  refusal_or other (Err r) = r

  nine : {r : Refusal} (high : Bool) → tried high ≡ Err r → (high ≡ true) × (Refusal.AboveCeiling ≡ r)
  unfolding is_ok refusal_or
  nine true e = (refl, ap (refusal_or Refusal.AboveCeiling) e)
  nine false e = absurd (true≢false (ap is_ok e))

module _ (part : List ℕ) (of : HourSeries) (days S on : ℕ) where
  -- k4's sums that were tried.
  pub sums_low : {k : K4} → tried_sums part of days S ≡ Ok k
      → (high_powers part ≡ false) × (k ≡ k4_in part of.working of.possible days S)
  unfolding tried_sums
  sums_low = low _ (high_powers part)

  -- The figures of hours without a power above the ceiling, and of others.
  pub figures_low : {f : HourFigures} → hour_figures part of days S on ≡ Ok f → (high_powers part ≡ false)
      × (f.sums ≡ k4_in part of.working of.possible days S)
      × (f.average ≡ hundredths (average_of hundredth (power_control part of.outside days on)))
  unfolding hour_figures
  figures_low e =
      let both = low _ (high_powers part) e in
      (both.0, ap (λ (f : HourFigures). f.sums) both.1, ap (λ (f : HourFigures). f.average) both.1)

  pub figures_high : {r : Refusal} → hour_figures part of days S on ≡ Err r
      → (high_powers part ≡ true) × (r ≡ Refusal.AboveCeiling)
  unfolding hour_figures
  figures_high e = let both = nine _ (high_powers part) e in (both.0, sym both.1)
