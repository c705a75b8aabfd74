-- The control hours of a series and of one less another, as the struct that carries their sum and count.
use Rattle.std.specs.Prelude.{ℕ, ◌*◌, Bool, cond, ◌&&◌, List, length, nat_le}
use Rattle.rules.specs.declared.Series.{Series}
use Rattle.rules.specs.Range.{sum, when}
use Rattle.rules.specs.ControlHours.{average}
use Rattle.laws.proofs.ControlHours.{evening}
use Rattle.units.specs.Sums.{tenths}
use Rattle.calendar.specs.Days.{day_on}
use Rattle.hours.specs.declared.control.Control.{Control}
use Rattle.hours.specs.Series.{stands, power_in, net_in}

-- The sum of a series over the hours 17 to 22 of the days that are marked, among the first n, and how many
-- hours these are.
abbrev pub control_of : (ℕ → ℕ) → ℕ → ℕ → Control
control_of series on n =
    record {
      counted = tenths (sum (λ d. when (day_on on d) (evening series d)) n);
      count = sum (λ d. when (day_on on d) 6) n;
    }

-- Of no hours.
abbrev pub no_hours : Control
no_hours = record { counted = tenths 0; count = 0 }

-- Of a month of so many days; nothing where not all of its powers stand in the part, or where it has more
-- than 31 days.
unfoldable pub control_in : Bool → (ℕ → ℕ) → ℕ → ℕ → Control
control_in standing series days on = cond (nat_le days 31 && standing) (control_of series on days) no_hours

-- The control hours of a series in a part.
abbrev pub power_control : List ℕ → Series → ℕ → ℕ → Control
power_control part x days on = control_in (stands (length part) x (24 * days)) (power_in part x) days on

-- Those of one series less another.
abbrev pub net_control : List ℕ → Series → Series → ℕ → ℕ → Control
net_control part of taken days on =
    control_in (stands (length part) of (24 * days) && stands (length part) taken (24 * days))
    (net_in part of taken) days on

-- The average of control hours, in units of which so many are a tenth. [Control hours; Requests, 6]
abbrev pub average_of : ℕ → Control → ℕ
average_of fineness c = average (fineness * c.counted.0) c.count
