use Rattle.std.proofs.Common.{◌≡◌, ℕ, false}
use Rattle.rules.specs.ControlTable.{says}
use Rattle.laws.proofs.Arrays.{filled}
use Rattle.calendar.specs.Days.{day_on}
use Rattle.calendar.proofs.control_days.Given as goal

abbrev pub invariant-loop-day : goal.invariant-loop-day
invariant-loop-day l = (d : ℕ) → day_on l.on d ≡ filled false (says l.h.weekday) l.day d
