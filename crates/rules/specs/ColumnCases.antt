-- Hours by column, and sheets of version 3: figures of our own. [Requests, 7]
use Rattle.std.specs.Prelude.{ℕ, ◌+◌, ◌≡◌, refl}
use Rattle.std.specs.Prelude.{List, [], ◌∷◌, ◌++◌, replicate}
use Rattle.rules.specs.Range.{when}
use Rattle.rules.specs.Units.{hundredth}
use Rattle.rules.specs.Month.{Month}
use Rattle.rules.specs.ControlHours.{control_average}
use Rattle.rules.specs.Coefficients.{k4}
use Rattle.rules.specs.Fields.{joined}
use Rattle.rules.specs.Sheet.{Layout, layout_of, month_of, sheet_length, hour_series, rearranged}
use Rattle.rules.specs.Refusals.{high_producer, refusal}
use Rattle.rules.specs.Samples.{Figure, figure, wrong}
use Rattle.rules.specs.Open.{settlement, layout}

-- A power whose last two bytes are these, in each of 24 hours: 256 × high + hour.
abbrev hourly : ℕ → ℕ → List ℕ
hourly high hour = 0 ∷ 0 ∷ high ∷ hour ∷ []

-- A day of a producer's hours, each hour's three powers together, and the same by column: working powers 256
-- × high + hour, possible ones 256 more, outside uses 512 more.
abbrev tripled : ℕ → List ℕ
tripled high = joined (λ hour. hourly high hour ++ hourly (high + 1) hour ++ hourly (high + 2) hour) 24

abbrev columned : ℕ → List ℕ
columned high = joined (hourly high) 24 ++ joined (hourly (high + 1)) 24 ++ joined (hourly (high + 2)) 24

-- A month of one day, a Monday: two producers, with stated bytes 7 and 8, a row from day 9 to day 10 and a
-- consumer with nothing but bytes 11. 14 + 2 × (42 + 288) + 12 + 15 = 701 bytes (2 × 256 + 189).
abbrev sheet_in : ℕ → (ℕ → List ℕ) → List ℕ
sheet_in version hours_from =
    (0 ∷ 0 ∷ 2 ∷ 189 ∷ version ∷ 1 ∷ 1 ∷ 0 ∷ 0 ∷ 0 ∷ 0 ∷ 2 ∷ 1 ∷ 1 ∷ [])
    ++ (replicate 42 7 ++ hours_from 1)
    ++ (replicate 42 8 ++ hours_from 4)
    ++ (5 ∷ 255 ∷ 0 ∷ 0 ∷ 0 ∷ 3 ∷ 0 ∷ 0 ∷ 0 ∷ 4 ∷ 9 ∷ 10 ∷ [])
    ++ replicate 15 11

unfoldable pub sheet_of_3 : List ℕ
sheet_of_3 = sheet_in 3 columned

-- Version 2 of it is rearranged into it, byte by byte.
pub tripled_in_columns : rearranged (sheet_in 2 tripled) ≡ sheet_of_3
unfolding layout sheet_of_3
tripled_in_columns = refl

abbrev m : Month
m = month_of sheet_of_3

unfoldable pub readings : List Figure
readings =
    figure (sheet_length (layout_of sheet_of_3)) 701
    -- producer 0, hours 0, 1 and 23 of each column: 256 + hour, 512 + hour, 768 + hour
    ∷ figure (m.producer 0).attested 117901063
    ∷ figure ((m.producer 0).working 0) 256
    ∷ figure ((m.producer 0).working 1) 257
    ∷ figure ((m.producer 0).working 23) 279
    ∷ figure ((m.producer 0).possible 0) 512
    ∷ figure ((m.producer 0).possible 1) 513
    ∷ figure ((m.producer 0).possible 23) 535
    ∷ figure ((m.producer 0).outside_use 0) 768
    ∷ figure ((m.producer 0).outside_use 1) 769
    ∷ figure ((m.producer 0).outside_use 23) 791
    -- producer 1: 1,024 + hour, 1,280 + hour, 1,536 + hour
    ∷ figure ((m.producer 1).working 0) 1024
    ∷ figure ((m.producer 1).possible 22) 1302
    ∷ figure ((m.producer 1).outside_use 23) 1559
    -- the row and the consumer stand where version 2 has them
    ∷ figure (m.row 0).producer 5
    ∷ figure (m.row 0).price 4
    ∷ figure (m.row 0).first 9
    ∷ figure (m.row 0).last 10
    ∷ figure (m.consumer 0).supplier 11
    -- k4 of producer 0, S above all powers: 24 × 256 + (0 + 1 + .. + 23) = 6,144 + 276 = 6,420 of 24 × 512 +
    -- 276 = 12,564, 0.510984
    ∷ figure (k4 m.header (m.producer 0) 100000) 510984
    -- the average of outside use over hours 17 to 22: 768 + 19.5 tenths, 78.75 megawatts
    ∷ figure (control_average hundredth m.header (m.producer 0).outside_use) 7875
    ∷ []

-- Where the columns begin in the longest month: 4 × 24 × 31 = 2,976 bytes each.
abbrev longest : Layout
longest = record {
  version = 3;
  header = record {
    days = 31;
    weekday = 1;
    holidays = 0;
    producers = 1;
    rows = 0;
    consumers = 0;
  };
}

unfoldable pub starts : List Figure
starts =
    figure (hour_series longest).working.start 0
    ∷ figure (hour_series longest).possible.start 2976
    ∷ figure (hour_series longest).outside.start 5952
    ∷ figure (hour_series longest).outside.step 4
    ∷ []

-- A producer of one day with nothing but 0 in it save one power, in a sheet of version 3: the bytes of its
-- hours before that power and after it, and the power's last byte. 14 + 42 + 288 = 344 bytes (256 + 88).
-- 100,000 is 65,536 + 134 × 256 + 160.
abbrev one_power : ℕ → ℕ → ℕ → List ℕ
one_power before after low =
    (0 ∷ 0 ∷ 1 ∷ 88 ∷ 3 ∷ 1 ∷ 1 ∷ 0 ∷ 0 ∷ 0 ∷ 0 ∷ 1 ∷ 0 ∷ 0 ∷ [])
    ++ replicate 42 0
    ++ joined (λ i. 0 ∷ []) before
    ++ (0 ∷ 1 ∷ 134 ∷ low ∷ [])
    ++ joined (λ i. 0 ∷ []) after

abbrev nine : List ℕ → ℕ
nine s = when (high_producer (month_of s).header ((month_of s).producer 0)) 1

unfoldable pub numbers : List Figure
numbers =
    -- 9 of the first and the last power of each column, 100,000 and one more
    figure (nine (one_power 0 284 160)) 0
    ∷ figure (nine (one_power 0 284 161)) 1
    ∷ figure (nine (one_power 92 192 161)) 1
    ∷ figure (nine (one_power 96 188 161)) 1
    ∷ figure (nine (one_power 188 96 161)) 1
    ∷ figure (nine (one_power 192 92 161)) 1
    ∷ figure (nine (one_power 284 0 161)) 1
    ∷ figure (nine (one_power 284 0 160)) 0
    -- a row takes 12 bytes: 14 + 12 = 26 are refused for the row's producer, 0 of 0, and 14 + 10 = 24 for
    -- their length
    ∷ figure (refusal ((0 ∷ 0 ∷ 0 ∷ 26 ∷ 3 ∷ 28 ∷ 1 ∷ 0 ∷ 0 ∷ 0 ∷ 0 ∷ 0 ∷ 1 ∷ 0 ∷ []) ++ replicate 10 0 ++ (1 ∷ 28 ∷ [])) 37) 10
    ∷ figure (refusal ((0 ∷ 0 ∷ 0 ∷ 24 ∷ 3 ∷ 28 ∷ 1 ∷ 0 ∷ 0 ∷ 0 ∷ 0 ∷ 0 ∷ 1 ∷ 0 ∷ []) ++ replicate 10 0) 37) 6
    ∷ []

-- By computation: no figure is wrong.
pub columns_read : wrong readings ≡ []
unfolding settlement layout sheet_of_3 readings
columns_read = refl

pub columns_start : wrong starts ≡ []
unfolding settlement layout starts
columns_start = refl

pub columns_refused : wrong numbers ≡ []
unfolding settlement layout numbers
columns_refused = refl
