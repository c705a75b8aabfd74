-- Contracts that begin or end inside a month, and sheets of version 2: figures of our own. [Requests, 5]
use Rattle.std.specs.Prelude.{ℕ, List, [], ◌∷◌, ◌++◌, replicate, drop, ◌≡◌, refl}
use Rattle.rules.specs.Range.{when}
use Rattle.rules.specs.Units.{one}
use Rattle.rules.specs.Fields.{bytes_from}
use Rattle.rules.specs.Month.{Row, Consumer, Month}
use Rattle.rules.specs.Sheet.{layout_of, month_of, sheet_length, in_version_2}
use Rattle.rules.specs.Cut.{after_cut}
use Rattle.rules.specs.Rows.{actual, payment}
use Rattle.rules.specs.Consumers.{credit}
use Rattle.rules.specs.Refusals.{figure_tests, sheet_tests, tests, applies, first_of, refusal}
use Rattle.rules.specs.Transfers.{transfer_tests}
use Rattle.rules.specs.Averaging.{average_tests}
use Rattle.rules.specs.Outcome2015.{tests_2015}
use Rattle.rules.specs.Samples.{
  producer,
  row,
  days_row,
  consumer,
  month,
  every,
  k1,
  k4,
  Figure,
  figure,
  wrong,
}
use Rattle.rules.specs.Open.{settlement, layout, transfers, averaging, text_2015}

-- A month of so many days with one producer, whose rows are not cut and whose coefficients are 1 but for k10,
-- and with these rows and consumers.
unfoldable pub month_with : ℕ → ℕ → List (ℕ → Row) → List Consumer → Month
month_with days k10 rows consumers =
    month days 1 0
    (producer 100000 0 0 0 0 0 (one ∷ one ∷ one ∷ one ∷ one ∷ k10 ∷ []) (every 0) (every 0) (every 0) ∷ [])
    rows
    consumers

-- The same with a support row at 10.00 tenge: its first and last day, its volume.
abbrev one_row : ℕ → ℕ → ℕ → ℕ → ℕ → Month
one_row days k10 first last volume = month_with days k10 (days_row first last 0 255 volume 1000 ∷ []) []

-- The producer of document 01's checked months, of given attested capacity and outside use, whose row has a
-- first and a last day: in 30 days a support row of 100.0 and deductible 10.0, possible power 110.0, working
-- power 99.0, 72 hours without an upward bid.
unfoldable pub checked_for : ℕ → ℕ → ℕ → ℕ → Month
checked_for first last attested outside =
    month 30 1 0
    (producer attested 100 0 72 36 0 [] (every 990) (every 1100) (every outside) ∷ [])
    (days_row first last 0 255 1000 0 ∷ [])
    []

unfoldable pub share_cases : List Figure
share_cases =
    -- day 10 of 30: 100 / 30 = 3.333333, so 3.3, paid 33.00; days 11 to 31 of 31, 21 days: 100 × 21 / 31 =
    -- 67.741935, so 67.7
    figure (actual (one_row 30 one 10 10 1000) 0) 33
    ∷ figure (payment (one_row 30 one 10 10 1000) 0) 3300
    ∷ figure (actual (one_row 31 one 11 31 1000) 0) 677
    -- all 31 days; without the last, 96.774194; without the first, the same
    ∷ figure (actual (one_row 31 one 1 31 1000) 0) 1000
    ∷ figure (actual (one_row 31 one 1 30 1000) 0) 968
    ∷ figure (actual (one_row 31 one 2 31 1000) 0) 968
    -- the last day alone, 100 / 31 = 3.225806; the first day of 28 alone, 100 / 28 = 3.571429
    ∷ figure (actual (one_row 31 one 31 31 1000) 0) 32
    ∷ figure (actual (one_row 28 one 1 1 1000) 0) 36
    -- a half at the millionth: 0.3 × 0.999995 = 0.2999985, so 0.299999; for 14 days of 28 0.1499995, so
    -- 0.150000, and 0.2. Half of the volume first, then k10: 0.149999, and 0.1; not rounded to a millionth,
    -- 0.1 too
    ∷ figure (actual (one_row 28 999995 1 14 3) 0) 2
    -- 5166.6 × 0.00001 = 0.051666; for 30 days of 31 0.04999935.., so 0.049999, and 0.0; rounded upward
    -- 0.050000, and 0.1
    ∷ figure (actual (one_row 31 10 1 30 51666) 0) 0
    -- 9999.9 for 25 days of 30 is 8333.25, so 8333.3; by a share of 0.833333 it would be 8333.246667, so
    -- 8333.2
    ∷ figure (actual (one_row 30 one 6 30 99999) 0) 83333
    -- half of 0.1 × 0.5 is 0.025, so 0.0; from 0.05 rounded to 0.1 the half would be 0.1
    ∷ figure (actual (one_row 28 500000 1 14 1) 0) 0
    -- the volume after the cut is for no days
    ∷ figure (after_cut (one_row 30 one 10 10 1000) 0) 1000
    -- each row by its own days: 10.0 for 15 days of 30, and all of 20.0; the credit is for the days too
    ∷ figure (actual (month_with 30 one (days_row 16 30 0 0 100 0 ∷ row 0 255 200 0 ∷ []) (consumer 0 0 0 0 10 0 ∷ [])) 0) 50
    ∷ figure (actual (month_with 30 one (days_row 16 30 0 0 100 0 ∷ row 0 255 200 0 ∷ []) (consumer 0 0 0 0 10 0 ∷ [])) 1) 200
    ∷ figure (credit (month_with 30 one (days_row 16 30 0 0 100 0 ∷ row 0 255 200 0 ∷ []) (consumer 0 0 0 0 10 0 ∷ [])) 0) 50
    -- the checked months with days 1 to 30 stated
    ∷ figure (actual (checked_for 1 30 1100 100) 0) 810
    ∷ figure (after_cut (checked_for 1 30 1050 100) 0) 950
    ∷ figure (actual (checked_for 1 30 1050 100) 0) 806
    ∷ figure (k1 (checked_for 1 30 1100 120)) 974000
    ∷ figure (k1 (checked_for 1 30 1100 121)) 968500
    -- the same for 15 days: the cut, T and S are those of 100.0 and not of 50.0, by which nothing would be
    -- cut, k1 would be 1 - 1.3 × 2 / 50 = 0.948 and k4 1; 95 × 99 / 105 × 0.9 / 2 = 40.307143, and 100 ×
    -- 0.974 × 0.9 × 0.9 / 2 = 39.447
    ∷ figure (after_cut (checked_for 16 30 1050 100) 0) 950
    ∷ figure (actual (checked_for 16 30 1050 100) 0) 403
    ∷ figure (k1 (checked_for 16 30 1100 120)) 974000
    ∷ figure (k4 (checked_for 16 30 1100 120)) 900000
    ∷ figure (actual (checked_for 16 30 1100 120) 0) 394
    ∷ []

abbrev number_of : Month → ℕ
number_of m = first_of (figure_tests m)

-- The number of a month of 28 days whose second row has a first and a last day.
abbrev in_february : ℕ → ℕ → ℕ
in_february first last = number_of (month_with 28 one (row 0 255 0 0 ∷ days_row first last 0 255 0 0 ∷ []) [])

unfoldable pub day_cases : List Figure
day_cases =
    -- the month, its first day, its last day
    figure (in_february 1 28) 0
    ∷ figure (in_february 1 1) 0
    ∷ figure (in_february 28 28) 0
    -- first day 0; last before first; last after the month's end
    ∷ figure (in_february 0 28) 18
    ∷ figure (in_february 0 0) 18
    ∷ figure (in_february 2 1) 18
    ∷ figure (in_february 28 27) 18
    ∷ figure (in_february 1 29) 18
    ∷ figure (in_february 29 29) 18
    -- in 31 days
    ∷ figure (number_of (one_row 31 one 1 31 0)) 0
    ∷ figure (number_of (one_row 31 one 1 32 0)) 18
    -- 10, 11 and 12 come first: producer 1 of 1, a price too high, z 0.9
    ∷ figure (number_of (month_with 28 one (days_row 0 28 1 255 0 0 ∷ []) [])) 10
    ∷ figure (number_of (month_with 28 one (days_row 0 28 0 255 0 200000001 ∷ []) [])) 11
    ∷ figure (number_of (month_with 28 one (days_row 0 28 0 255 0 0 ∷ []) (consumer 0 0 0 0 9 0 ∷ []))) 12
    ∷ []

-- The front of a sheet without producers: the length's last byte, version, days, R and C.
abbrev front : ℕ → ℕ → ℕ → ℕ → ℕ → List ℕ
front length version days R C = 0 ∷ 0 ∷ 0 ∷ length ∷ version ∷ days ∷ 1 ∷ 0 ∷ 0 ∷ 0 ∷ 0 ∷ 0 ∷ R ∷ C ∷ []

-- A row that sells 3 to the single buyer at 4, and its days.
abbrev row_bytes : ℕ → List ℕ → List ℕ
row_bytes producer days = (producer ∷ 255 ∷ 0 ∷ 0 ∷ 0 ∷ 3 ∷ 0 ∷ 0 ∷ 0 ∷ 4 ∷ []) ++ days

-- Two rows, of producers 5 and 6, from day 7 to 8 and from day 9 to 10, and a consumer with nothing but bytes
-- 11, in 31 days: 14 + 2 × 12 + 15 = 53 bytes. The same of version 1: 49 bytes.
unfoldable pub sheet_of_2 : List ℕ
sheet_of_2 = front 53 2 31 2 1 ++ row_bytes 5 (7 ∷ 8 ∷ []) ++ row_bytes 6 (9 ∷ 10 ∷ []) ++ replicate 15 11

unfoldable pub sheet_of_1 : List ℕ
sheet_of_1 = front 49 1 31 2 1 ++ row_bytes 5 [] ++ row_bytes 6 [] ++ replicate 15 11

-- A sheet of version 2 with one row, from a day to day 28 of 28, and no producer.
abbrev from_day : ℕ → List ℕ
from_day first = front 26 2 28 1 0 ++ row_bytes 0 (first ∷ 28 ∷ [])

unfoldable pub version_cases : List Figure
version_cases =
    figure (sheet_length (layout_of sheet_of_2)) 53
    ∷ figure ((month_of sheet_of_2).row 0).price 4
    ∷ figure ((month_of sheet_of_2).row 0).first 7
    ∷ figure ((month_of sheet_of_2).row 0).last 8
    ∷ figure ((month_of sheet_of_2).row 1).producer 6
    ∷ figure ((month_of sheet_of_2).row 1).volume 3
    ∷ figure ((month_of sheet_of_2).row 1).first 9
    ∷ figure ((month_of sheet_of_2).row 1).last 10
    ∷ figure ((month_of sheet_of_2).consumer 0).supplier 11
    -- a row of version 1 covers the 31 days
    ∷ figure (sheet_length (layout_of sheet_of_1)) 49
    ∷ figure ((month_of sheet_of_1).row 0).first 1
    ∷ figure ((month_of sheet_of_1).row 0).last 31
    ∷ figure ((month_of sheet_of_1).row 1).producer 6
    ∷ figure ((month_of sheet_of_1).row 1).last 31
    ∷ figure ((month_of sheet_of_1).consumer 0).supplier 11
    -- one row: 24 bytes in version 1 and 26 in version 2, each refused for its producer, 0 of 0, and not for
    -- its length
    ∷ figure (refusal (front 24 1 28 1 0 ++ row_bytes 0 []) 37) 10
    ∷ figure (refusal (from_day 1) 37) 10
    -- exchanged, for its length; versions 0, 4 and 255, whatever the length
    ∷ figure (refusal (front 26 1 28 1 0 ++ row_bytes 0 (1 ∷ 28 ∷ [])) 37) 6
    ∷ figure (refusal (front 24 2 28 1 0 ++ row_bytes 0 []) 37) 6
    ∷ figure (refusal (front 24 0 28 1 0 ++ row_bytes 0 []) 37) 3
    ∷ figure (refusal (front 26 4 28 1 0 ++ row_bytes 0 (1 ∷ 28 ∷ [])) 37) 3
    ∷ figure (refusal (front 26 255 28 1 0 ++ row_bytes 0 (1 ∷ 28 ∷ [])) 37) 3
    -- 18 is among the numbers that entries without a result buffer try
    ∷ figure (when (applies 18 (sheet_tests (from_day 0))) 1) 1
    ∷ figure (when (applies 18 (sheet_tests (from_day 1))) 1) 0
    ∷ figure (when (applies 18 (sheet_tests (front 24 1 28 1 0 ++ row_bytes 0 []))) 1) 0
    -- behind the tests of 1 to 12 it is the next, also under the text of 2015; where 7 is left out, before 13
    -- of a list of no bytes and 16 of a record of none, which come first where the days are right
    ∷ figure (first_of (drop 12 (tests (from_day 0) 37))) 18
    ∷ figure (first_of (drop 12 (tests_2015 (from_day 0) 4))) 18
    ∷ figure (first_of (drop 11 (transfer_tests (from_day 0) []))) 18
    ∷ figure (first_of (drop 11 (average_tests (from_day 0) []))) 18
    ∷ figure (first_of (drop 11 (transfer_tests (from_day 1) []))) 13
    ∷ figure (first_of (drop 11 (average_tests (from_day 1) []))) 16
    ∷ []

-- All at once, by computation: no figure is wrong.
pub share_cases_hold : wrong share_cases ≡ []
unfolding settlement month_with checked_for share_cases
share_cases_hold = refl

pub day_cases_hold : wrong day_cases ≡ []
unfolding settlement layout month_with day_cases
day_cases_hold = refl

pub version_cases_hold : wrong version_cases ≡ []
unfolding settlement layout transfers averaging text_2015 sheet_of_2 sheet_of_1 version_cases
version_cases_hold = refl

-- The sheet of version 1 above, written in version 2: 49 + 2 × 2 = 53 bytes, both rows from day 1 to day 31.
pub written_in_2 : in_version_2 sheet_of_1
    ≡ front 53 2 31 2 1 ++ row_bytes 5 (1 ∷ 31 ∷ []) ++ row_bytes 6 (1 ∷ 31 ∷ []) ++ replicate 15 11
unfolding layout sheet_of_1
written_in_2 = refl

-- A sheet with a producer of a month of no days, 42 bytes, one row and two consumers: 14 + 42 + 10 + 30 = 96
-- bytes, in version 2 98.
abbrev with_producer : ℕ → ℕ → List ℕ → List ℕ
with_producer length version days =
    (0 ∷ 0 ∷ 0 ∷ length ∷ version ∷ 0 ∷ 1 ∷ 0 ∷ 0 ∷ 0 ∷ 0 ∷ 1 ∷ 1 ∷ 2 ∷ [])
    ++ replicate 42 7
    ++ row_bytes 5 days
    ++ replicate 15 11
    ++ replicate 15 12

pub producer_in_2 : in_version_2 (with_producer 96 1 []) ≡ with_producer 98 2 (1 ∷ 0 ∷ [])
unfolding layout
producer_in_2 = refl

-- A byte past the end counts as 0.
pub past_the_end : bytes_from (5 ∷ 6 ∷ []) 1 2 ≡ 6 ∷ 0 ∷ []
unfolding layout
past_the_end = refl
