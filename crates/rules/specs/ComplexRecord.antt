-- The record of an industrial complex: where each figure of it stands. No other definition knows a place in
-- the record. [Requests, 3]
use Rattle.std.specs.Prelude.{ℕ, ◌+◌, ◌*◌, List}
use Rattle.rules.specs.Month.{Header, hours}
use Rattle.rules.specs.Fields.{big_endian}
use Rattle.rules.specs.Sheet.{Series, series, power}

-- The width of what stands before the hours: the length, the consumer and imported power.
abbrev pub record_front : ℕ
record_front = 9

-- The width of an hour: power drawn and power sent out.
abbrev pub record_hour : ℕ
record_hour = 8

-- The length that a month asks of a record: 9 + 192 × days.
abbrev pub record_width : Header → ℕ
record_width h = record_front + record_hour * hours h

-- The length of the whole record, itself included.
unfoldable pub record_length : List ℕ → ℕ
record_length r = big_endian 4 r 0

-- The consumer of the sheet that the complex is.
unfoldable pub complex : List ℕ → ℕ
complex r = big_endian 1 r 4

-- The imported power of the month, in tenths of a megawatt, as all powers of the record.
unfoldable pub imported : List ℕ → ℕ
imported r = big_endian 4 r 5

-- The series of powers drawn and sent out: an hour's two powers follow each other, hour 0 of day 1 first.
abbrev pub drawn_series : Series
drawn_series = series 0 record_hour

abbrev pub sent_series : Series
sent_series = series 4 record_hour

-- The power drawn in an hour.
unfoldable pub drawn : List ℕ → ℕ → ℕ
drawn r hour = power r record_front drawn_series hour

-- The power that its stations sent out in an hour.
unfoldable pub sent : List ℕ → ℕ → ℕ
sent r hour = power r record_front sent_series hour
