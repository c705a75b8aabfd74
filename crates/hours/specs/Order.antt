-- The orders in which a sheet's producer has the hours of a month, as the code tells them apart.
use Rattle.std.specs.Prelude.{ℕ, ◌*◌, Bool, cond, ◌&&◌, ◌==◌, nat_le, Option}
use Rattle.std.specs.Prelude.Option.{Some, None}
use Rattle.rules.specs.declared.Series.{Series}
use Rattle.rules.specs.declared.HourSeries.{HourSeries}
use Rattle.hours.specs.declared.order.HourOrder.{HourOrder}

-- A series begins at a place and has a step.
unfoldable pub is_series : Series → ℕ → ℕ → Bool
is_series x start step = x.start == start && x.step == step

-- Hours of one step: the working powers begin at the part's front.
unfoldable pub are_hours : HourSeries → ℕ → ℕ → ℕ → Bool
are_hours of possible outside step =
    is_series of.working 0 step && is_series of.possible possible step && is_series of.outside outside step

-- The order of a month of so many days that fills so many bytes, if it is one that a sheet has.
unfoldable pub hour_order : ℕ → HourSeries → ℕ → Option HourOrder
hour_order bytes of days =
    cond (nat_le days 31 && bytes == 3 * (96 * days))
    (cond (are_hours of 4 8 12)
    (Some HourOrder.ByHour)
    (cond (are_hours of (96 * days) (2 * (96 * days)) 4) (Some HourOrder.ByColumn) None))
    None
