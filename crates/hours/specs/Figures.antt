-- What a settlement takes from a producer's hours.
use Rattle.std.specs.Prelude.{ℕ, cond, List, Result}
use Rattle.std.specs.Prelude.Result.{Ok, Err}
use Rattle.rules.specs.declared.HourSeries.{HourSeries}
use Rattle.rules.specs.declared.Refusal.{Refusal}
use Rattle.rules.specs.Units.{hundredth}
use Rattle.units.specs.Sums.{hundredths}
use Rattle.refusals_powers.specs.Powers.{high_powers}
use Rattle.hours.specs.declared.figures.HourFigures.{HourFigures}
use Rattle.hours.specs.declared.k4.K4.{K4}
use Rattle.hours.specs.Sums.{k4_in}
use Rattle.hours.specs.Control.{power_control, average_of}

-- k4's sums of hours without a power above the ceiling, or number 9.
unfoldable pub tried_sums : List ℕ → HourSeries → ℕ → ℕ → Result K4 Refusal
tried_sums part of days S =
    cond (high_powers part)
    (Err Refusal.AboveCeiling)
    (Ok (k4_in part of.working of.possible days S))

-- With them the control average of outside use in hundredths, or number 9.
unfoldable pub hour_figures : List ℕ → HourSeries → ℕ → ℕ → ℕ → Result HourFigures Refusal
hour_figures part of days S on =
    cond (high_powers part)
    (Err Refusal.AboveCeiling)
    (Ok
    (record {
      sums = k4_in part of.working of.possible days S;
      average = hundredths (average_of hundredth (power_control part of.outside days on));
    }))
