-- Control hours: the evening hours of working days over which outside use is averaged. Days are counted from
-- 0 here, day 1 of the month being 0, and hours run through the month.
use Rattle.std.specs.Prelude.{ℕ, zero, suc, ◌+◌, ◌*◌, ◌/◌, ◌%◌, ◌^◌, Bool, not, ◌&&◌, leb, eqb}
use Rattle.rules.specs.Range.{sum, when}
use Rattle.rules.specs.Units.{rounded}
use Rattle.rules.specs.Month.{Header, hours}

-- The weekday of a day in a month that begins on a weekday, Monday 1 to Sunday 7. 6 stands in place of -1: a
-- weekday back is six on. [Control hours; p. 2, 4)]
unfoldable pub weekday_on : ℕ → ℕ → ℕ
weekday_on first day = (first + day + 6) % 7 + 1

-- A control weekday: Monday to Friday. [Control hours; Requests, 2; p. 2, 4)]
unfoldable pub control_weekday : ℕ → ℕ → Bool
control_weekday first day = leb (weekday_on first day) 5

-- A day whose bit stands in the holidays. [Units and the sheet, Header; p. 2, 4)]
unfoldable pub holiday_on : Header → ℕ → Bool
holiday_on h day = eqb (h.holidays / 2 ^ day % 2) 1

-- A control day: a control weekday, and no holiday. [Control hours; p. 2, 4)]
unfoldable pub control_day : Header → ℕ → Bool
control_day h day = control_weekday h.weekday day && not (holiday_on h day)

-- A control hour: one of the six hours 17 to 22 of a control day. [Control hours; p. 2, 4)]
unfoldable pub control_hour : Header → ℕ → Bool
control_hour h hour = leb 17 (hour % 24) && leb (hour % 24) 22 && control_day h (hour / 24)

-- What an hour of a series adds to the control sum: its figure in a control hour, otherwise nothing. [Control
-- hours]
unfoldable pub counted : Header → (ℕ → ℕ) → ℕ → ℕ
counted h series hour = when (control_hour h hour) (series hour)

-- The sum of an hourly series over the control hours. [Control hours]
unfoldable pub control_sum : Header → (ℕ → ℕ) → ℕ
control_sum h series = sum (counted h series) (hours h)

-- The series that counts: 1 in every hour. [Control hours]
abbrev pub once : ℕ → ℕ
once hour = 1

-- The count of the control hours. [Control hours]
unfoldable pub control_count : Header → ℕ
control_count h = control_sum h once

-- A sum over a count, rounded; 0 where there is nothing to count. [Control hours]
unfoldable pub average : ℕ → ℕ → ℕ
average total zero = 0
average total (suc n) = rounded total (suc n)

-- The control average of a series of tenths, rounded to a tenth or a hundredth, in units of that fineness; 0
-- in a month without a control day. [Control hours; Requests, 6; A2 p. 1]
unfoldable pub control_average : ℕ → Header → (ℕ → ℕ) → ℕ
control_average fineness h series = average (fineness * control_sum h series) (control_count h)
