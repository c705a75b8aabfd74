use mathlib.Core.Path.{refl}
use Rattle.rules.specs.Range.{listed}
use Rattle.rules.specs.ControlHours.{weekday_on, control_weekday}
use Rattle.rules.specs.ControlTable.{control_weekdays}
use Rattle.calendar.proofs.table.control_weekdays.Goals as goal

-- The computed test, over the whole table: each of the 217 entries is what the weekday rule gives.
pub returns : goal.returns
unfolding control_weekdays listed control_weekday weekday_on
returns c = refl
