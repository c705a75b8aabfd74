-- The sheet: where each figure of a month stands. No other definition knows a place in the sheet. [Units and
-- the sheet, throughout]
use Rattle.std.specs.Prelude.{ℕ, zero, suc, ◌+◌, ◌-◌, ◌*◌, Bool, cond, List, [], ◌∷◌, ◌++◌, ltb}
use Rattle.rules.specs.Month.{Header, Producer, Row, Consumer, Month, hours}
use Rattle.rules.specs.Fields.{big_endian, bytes_from, bytes_of, field, laid, joined, over_at}
-- The version and the header: the struct Layout of src/lib.rt. Widths and places go by it, and nothing else
-- does.
pub use Rattle.rules.specs.declared.Layout.{Layout}
-- A producer's stated figures, a series of powers, and the series of its hours: the structs Stated, Series
-- and HourSeries of src/lib.rt.
pub use Rattle.rules.specs.declared.Stated.{Stated}
pub use Rattle.rules.specs.declared.Series.{Series}
pub use Rattle.rules.specs.declared.HourSeries.{HourSeries}

-- The header's width.
abbrev pub header_width : ℕ
header_width = 14

-- The length of the whole sheet, itself included.
unfoldable pub length_field : List ℕ → ℕ
length_field s = big_endian 4 s 0

-- The version.
unfoldable pub version : List ℕ → ℕ
version s = big_endian 1 s 4

-- The header's month and counts.
abbrev pub header_of : List ℕ → Header
header_of s =
    record {
      days = big_endian 1 s 5;
      weekday = big_endian 1 s 6;
      holidays = big_endian 4 s 7;
      producers = big_endian 1 s 11;
      rows = big_endian 1 s 12;
      consumers = big_endian 1 s 13;
    }

-- The layout: the version with the header.
abbrev pub layout_of : List ℕ → Layout
layout_of s = record { version = version s; header = header_of s }

-- The width of a producer's hours: three powers of 4 bytes in each of 24 × days hours.
abbrev pub hours_width : Header → ℕ
hours_width h = 288 * h.days

-- The width of a producer's stated figures.
abbrev pub stated_width : ℕ
stated_width = 42

-- The width of a producer with its hours.
abbrev pub producer_width : Layout → ℕ
producer_width l = stated_width + hours_width l.header

-- Whether rows state the days that they cover: from version 2 on. [Requests, 5]
unfoldable pub states_days : Layout → Bool
states_days l = ltb 1 l.version

-- Whether a producer's hours stand by column: from version 3 on. [Requests, 7]
unfoldable pub by_column : Layout → Bool
by_column l = ltb 2 l.version

-- The width of a row: its two days take a byte each. [Requests, 5]
unfoldable pub row_width : Layout → ℕ
row_width l = cond (states_days l) 12 10

-- The width of a consumer.
abbrev pub consumer_width : Layout → ℕ
consumer_width l = 15

-- Where producer p begins: producers follow the header.
unfoldable pub producer_at : Layout → ℕ → ℕ
producer_at l p = header_width + p * producer_width l

-- Where producer p's hours begin: they follow its stated figures.
unfoldable pub hours_at : Layout → ℕ → ℕ
hours_at l p = producer_at l p + stated_width

-- Where row j begins: rows follow the producers.
unfoldable pub row_at : Layout → ℕ → ℕ
row_at l j = producer_at l l.header.producers + row_width l * j

-- Where consumer c begins: consumers follow the rows.
unfoldable pub consumer_at : Layout → ℕ → ℕ
consumer_at l c = row_at l l.header.rows + consumer_width l * c

-- Where consumer c's contract volume stands: it is the first of its figures. [Requests, 1]
abbrev pub contract_at : Layout → ℕ → ℕ
contract_at l c = consumer_at l c

-- Where consumer c's peak stands: it follows the contract volume. [Requests, 3]
abbrev pub peak_at : Layout → ℕ → ℕ
peak_at l c = consumer_at l c + 4

-- The length that version, month and counts ask for: the place past the last consumer.
-- (sheet_length_in_full, in laws/Sheet: 14 + P × (42 + 288 × days) + row_width × R + 15 × C; row_width_1 and
-- row_width_2 there.)
unfoldable pub sheet_length : Layout → ℕ
sheet_length l = consumer_at l l.header.consumers

-- The stated figures of the producer that begins at a place.
abbrev pub stated_of : List ℕ → ℕ → Stated
stated_of s at =
    record {
      attested = big_endian 4 s at;
      deductible = big_endian 4 s (at + 4);
      needs = big_endian 4 s (at + 8);
      upward = big_endian 2 s (at + 12);
      downward = big_endian 2 s (at + 14);
      plan = big_endian 2 s (at + 16);
      k3 = big_endian 4 s (at + 18);
      k6 = big_endian 4 s (at + 22);
      k7 = big_endian 4 s (at + 26);
      k8 = big_endian 4 s (at + 30);
      k9 = big_endian 4 s (at + 34);
      k10 = big_endian 4 s (at + 38);
    }

-- From a place on, by a step.
abbrev pub series : ℕ → ℕ → Series
series start step = record { start = start; step = step }

-- Hour by hour: an hour's working, possible and outside-use power follow each other, hour 0 of day 1 first.
abbrev pub triples : HourSeries
triples = record { working = series 0 12; possible = series 4 12; outside = series 8 12 }

-- By column: the working powers of all hours, behind them the possible ones, behind these the outside uses,
-- hour 0 of day 1 first in each. [Requests, 7]
abbrev pub columns : Header → HourSeries
columns h = record { working = series 0 4; possible = series (96 * h.days) 4; outside = series (192 * h.days) 4 }

-- The series of a producer's powers in the stretch of its hours.
unfoldable pub hour_series : Layout → HourSeries
hour_series l = cond (by_column l) (columns l.header) triples

-- Where a series has its power of an hour, in the stretch that begins at a place.
abbrev pub power_at : ℕ → Series → ℕ → ℕ
power_at at x hour = at + (x.start + x.step * hour)

-- That power.
unfoldable pub power : List ℕ → ℕ → Series → ℕ → ℕ
power s at x hour = big_endian 4 s (power_at at x hour)

-- A producer by its stated figures and its series of working, possible and outside-use powers.
abbrev pub producer_of : Stated → (ℕ → ℕ) → (ℕ → ℕ) → (ℕ → ℕ) → Producer
producer_of x working possible outside =
    record {
      attested = x.attested;
      deductible = x.deductible;
      own_needs = x.needs;
      no_upward_bid = x.upward;
      no_downward_bid = x.downward;
      no_plan = x.plan;
      k3 = x.k3;
      k6 = x.k6;
      k7 = x.k7;
      k8 = x.k8;
      k9 = x.k9;
      k10 = x.k10;
      working = working;
      possible = possible;
      outside_use = outside;
    }

-- Producer p under a layout.
abbrev pub producer_under : Layout → List ℕ → ℕ → Producer
producer_under l s p =
    producer_of (stated_of s (producer_at l p))
    (power s (hours_at l p) (hour_series l).working)
    (power s (hours_at l p) (hour_series l).possible)
    (power s (hours_at l p) (hour_series l).outside)

-- The day that stands at a place; where rows state no days, another. [Requests, 5]
unfoldable pub day_at : Layout → List ℕ → ℕ → ℕ → ℕ
day_at l s at otherwise = cond (states_days l) (big_endian 1 s at) otherwise

-- The row whose figures begin at a place. Its days follow the price; a row that states none covers the month.
-- [Requests, 5]
abbrev pub row_of : Layout → List ℕ → ℕ → Row
row_of l s at =
    record {
      producer = big_endian 1 s at;
      consumer = big_endian 1 s (at + 1);
      volume = big_endian 4 s (at + 2);
      price = big_endian 4 s (at + 6);
      first = day_at l s (at + 10) 1;
      last = day_at l s (at + 11) l.header.days;
    }

-- The consumer whose figures begin at a place.
abbrev pub consumer_of : List ℕ → ℕ → Consumer
consumer_of s at =
    record {
      contract = big_endian 4 s at;
      peak = big_endian 4 s (at + 4);
      supplier = big_endian 1 s (at + 8);
      grid = big_endian 1 s (at + 9);
      z = big_endian 1 s (at + 10);
      price = big_endian 4 s (at + 11);
    }

-- The month with a layout's header, whose producers, rows and consumers stand in s where that layout puts
-- them.
abbrev pub month_under : Layout → List ℕ → Month
month_under l s =
    record {
      header = l.header;
      producer = producer_under l s;
      row = λ j. row_of l s (row_at l j);
      consumer = λ c. consumer_of s (consumer_at l c);
    }

-- The month that a sheet states.
abbrev pub month_of : List ℕ → Month
month_of s = month_under (layout_of s) s

-- The sheet after contract volumes v 0, .., v (n - 1) were written for its first n consumers. [Requests, 1]
unfoldable pub with_contracts : Layout → (ℕ → ℕ) → ℕ → List ℕ → List ℕ
with_contracts l v zero s = s
with_contracts l v (suc n) s = over_at (contract_at l n) (bytes_of 4 (v n)) (with_contracts l v n s)

-- The sheet after a peak was written for consumer c. [Requests, 3]
unfoldable pub with_peak : Layout → ℕ → ℕ → List ℕ → List ℕ
with_peak l c peak s = over_at (peak_at l c) (bytes_of 4 peak) s

-- A sheet of version 1 written in version 2: it has two bytes more for each row, and behind each row's
-- figures stand day 1 and the last day of the month. [Requests, 5]
unfoldable pub in_version_2 : List ℕ → List ℕ
in_version_2 s =
    laid (field 4 (length_field s + 2 * (header_of s).rows) ∷ field 1 2 ∷ [])
    ++ (bytes_from s 5 (row_at (layout_of s) 0 - 5)
    ++ (joined (λ j. bytes_from s (row_at (layout_of s) j) 10 ++ (1 ∷ (header_of s).days ∷ [])) (header_of s).rows
    ++ bytes_from s (consumer_at (layout_of s) 0) (consumer_width (layout_of s) * (header_of s).consumers)))

-- The first n powers of a series one after the other, 4 bytes each, in the stretch that begins at a place.
-- [Requests, 7]
unfoldable pub column : List ℕ → ℕ → ℕ → Series → List ℕ
column s at n x = joined (λ i. bytes_from s (power_at at x i) 4) n

-- Producer p under a layout, its hours by column: its stated figures as they stand, then a column for each of
-- its series. [Requests, 7]
unfoldable pub in_columns : Layout → List ℕ → ℕ → List ℕ
in_columns l s p =
    bytes_from s (producer_at l p) stated_width
    ++ (column s (hours_at l p) (hours l.header) (hour_series l).working
    ++ (column s (hours_at l p) (hours l.header) (hour_series l).possible
    ++ column s (hours_at l p) (hours l.header) (hour_series l).outside))

-- A sheet of version 2 written in version 3: as long as it was, each producer by column, all else as it
-- stands. [Requests, 7]
unfoldable pub rearranged : List ℕ → List ℕ
rearranged s =
    laid (field 4 (length_field s) ∷ field 1 3 ∷ [])
    ++ (bytes_from s 5 (header_width - 5)
    ++ (joined (in_columns (layout_of s) s) (header_of s).producers
    ++ bytes_from s (row_at (layout_of s) 0) (sheet_length (layout_of s) - row_at (layout_of s) 0)))
