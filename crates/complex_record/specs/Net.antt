-- Net power in a record, as the control average takes it.
use Rattle.std.specs.Prelude.{ℕ, List, drop}
use Rattle.rules.specs.Units.{tenth}
use Rattle.rules.specs.ComplexRecord.{record_front, drawn_series, sent_series}
use Rattle.hours.specs.Control.{net_control, average_of}

-- The average of drawn less sent out over the hours 17 to 22 of the days whose bit is set, to a tenth.
-- [Requests, 3]
abbrev pub net_average : List ℕ → ℕ → ℕ → ℕ
net_average r days on = average_of tenth (net_control (drop record_front r) drawn_series sent_series days on)
