-- Records of industrial complexes of our own, worked out by hand from request 3: the peak with its zero rules
-- and its half, each number at its limit and just past it, in its order, and the sheet afterwards. Figures
-- are in tenths of a megawatt.
use Rattle.std.specs.Prelude.{ℕ, zero, suc, cond, List, [], ◌∷◌, ◌++◌, replicate, eqb, ◌≡◌, refl}
use Rattle.rules.specs.Month.{Header, Consumer}
use Rattle.rules.specs.Fields.{bytes_of, joined}
use Rattle.rules.specs.Refusals.{first_of}
use Rattle.rules.specs.Outcome.{refused}
use Rattle.rules.specs.Averaging.{
  complex_peak,
  record_tests,
  average_refusal,
  average_outcome,
  peak_written,
  averaged,
  with_peak_of,
}
use Rattle.rules.specs.Samples.{consumer, month, every, at_hour, first_hours, Figure, figure, wrong}
use Rattle.rules.specs.Open.{settlement, layout, averaging}

-- A month of so many days that begins on a weekday, with holidays and three consumers.
abbrev month_from : ℕ → ℕ → ℕ → Header
month_from days weekday holidays =
    (month days weekday holidays [] [] (replicate 3 (consumer 0 0 0 0 10 0))).header

-- A record: its length field, consumer and imported power, and powers drawn and sent out in so many hours.
abbrev front : ℕ → ℕ → ℕ → List ℕ
front length complex imported = bytes_of 4 length ++ (complex ∷ []) ++ bytes_of 4 imported

-- The powers of n hours from hour i on.
unfoldable pub powers_from : (ℕ → ℕ) → (ℕ → ℕ) → ℕ → ℕ → List ℕ
powers_from drawn sent zero i = []
powers_from drawn sent (suc n) i =
    bytes_of 4 (drawn i) ++ (bytes_of 4 (sent i) ++ powers_from drawn sent n (suc i))

abbrev record_of : ℕ → ℕ → ℕ → ℕ → (ℕ → ℕ) → (ℕ → ℕ) → List ℕ
record_of length complex imported hours drawn sent =
    front length complex imported ++ powers_from drawn sent hours 0

-- One day, 9 + 192 = 201 bytes; two days, 393.
abbrev day : ℕ → (ℕ → ℕ) → (ℕ → ℕ) → List ℕ
day imported drawn sent = record_of 201 1 imported 24 drawn sent

abbrev days : ℕ → (ℕ → ℕ) → (ℕ → ℕ) → List ℕ
days imported drawn sent = record_of 393 1 imported 48 drawn sent

-- One figure in one hour of the month, and another in the rest.
abbrev in_hour : ℕ → ℕ → (ℕ → ℕ) → ℕ → ℕ
in_hour hour v rest i = cond (eqb i hour) v (rest i)

-- The peak on one Monday, which has the control hours 17 to 22; the number of a record for it.
abbrev monday : ℕ → (ℕ → ℕ) → (ℕ → ℕ) → ℕ
monday imported drawn sent = complex_peak (month_from 1 1 0) (day imported drawn sent)

abbrev number : List ℕ → ℕ
number r = first_of (record_tests (month_from 1 1 0) r)

unfoldable pub peak_cases : List Figure
peak_cases =
    -- 100.0 drawn and 30.0 sent out: 70.0 in each of six hours. Imported 20.0: 50.0
    figure (monday 0 (every 1000) (every 300)) 700
    ∷ figure (monday 200 (every 1000) (every 300)) 500
    -- 0.2, 0.3 and 0.4 more in one of the six: 4,202 / 6 = 700.33, 4,203 / 6 = 700.5, 4,204 / 6 = 700.67
    ∷ figure (monday 200 (in_hour 17 1002 (every 1000)) (every 300)) 500
    ∷ figure (monday 200 (in_hour 17 1003 (every 1000)) (every 300)) 501
    ∷ figure (monday 200 (in_hour 22 1004 (every 1000)) (every 300)) 501
    -- imported power just below, at and above the rounded average of 70.1, which is 70.05 before it is
    -- rounded (taken off before the rounding, imported power would give the same, since it is whole)
    ∷ figure (monday 700 (in_hour 17 1003 (every 1000)) (every 300)) 1
    ∷ figure (monday 701 (in_hour 17 1003 (every 1000)) (every 300)) 0
    ∷ figure (monday 702 (in_hour 17 1003 (every 1000)) (every 300)) 0
    ∷ figure (monday 100000 (every 1000) (every 300)) 0
    -- 130.0 sent out in hour 18, 100.0 drawn: 0 there, not -30.0. 5 × 700 = 3,500, / 6 = 583.33
    ∷ figure (monday 0 (every 1000) (in_hour 18 1300 (every 300))) 583
    -- 100.0 sent out there: 0 too. 99.9: 0.1, and 3,501 / 6 = 583.5
    ∷ figure (monday 0 (every 1000) (in_hour 18 1000 (every 300))) 583
    ∷ figure (monday 0 (every 1000) (in_hour 18 999 (every 300))) 584
    -- more sent out than drawn in every hour
    ∷ figure (monday 0 (every 300) (every 1000)) 0
    -- hours 16 and 23 at the ceiling: without effect; hours 17 and 22: 5 × 700 + 100,000 - 300 = 103,200, / 6
    -- = 17,200
    ∷ figure (monday 0 (at_hour 16 100000 (every 1000)) (every 300)) 700
    ∷ figure (monday 0 (at_hour 23 100000 (every 1000)) (every 300)) 700
    ∷ figure (monday 0 (at_hour 17 100000 (every 1000)) (every 300)) 17200
    ∷ figure (monday 0 (at_hour 22 100000 (every 1000)) (every 300)) 17200
    -- rounded once: four days from a Monday, 777 bytes, with 0.1 more in 11 of the 24 control hours, 70.0458.
    -- By way of 70.05 it would be 70.1
    ∷ figure (complex_peak (month_from 4 1 0) (record_of 777 1 0 96 (first_hours 46 1001 (every 1000)) (every 300))) 700
    -- the highest: 10,000.0 drawn in every hour and nothing sent out
    ∷ figure (monday 0 (every 100000) (every 0)) 100000
    -- no control day: a Saturday; a Monday that is a holiday
    ∷ figure (complex_peak (month_from 1 6 0) (day 0 (every 1000) (every 300))) 0
    ∷ figure (complex_peak (month_from 1 1 1) (day 0 (every 1000) (every 300))) 0
    -- two days, 30.0 sent out on the first and 3.0 on the second: 70.0 and 97.0. From Thursday on 6 × 700 + 6
    -- × 970 = 10,020, / 12 = 835; from Friday on 70.0, from Sunday on 97.0; from Thursday on with the second
    -- day a holiday 70.0
    ∷ figure (complex_peak (month_from 2 4 0) (days 0 (every 1000) (first_hours 24 300 (every 30)))) 835
    ∷ figure (complex_peak (month_from 2 5 0) (days 0 (every 1000) (first_hours 24 300 (every 30)))) 700
    ∷ figure (complex_peak (month_from 2 7 0) (days 0 (every 1000) (first_hours 24 300 (every 30)))) 970
    ∷ figure (complex_peak (month_from 2 4 2) (days 0 (every 1000) (first_hours 24 300 (every 30)))) 700
    -- imported power is taken off once, not in each hour: 70.0 on one day and nothing on the other is 35.0,
    -- less 20.0
    ∷ figure (complex_peak (month_from 2 4 0) (days 200 (first_hours 24 700 (every 0)) (every 0))) 150
    ∷ []

unfoldable pub record_cases : List Figure
record_cases =
    -- nothing; 8 bytes that say 8; the front alone, 9 bytes that say 9
    figure (number []) 16
    ∷ figure (number (0 ∷ 0 ∷ 0 ∷ 8 ∷ 1 ∷ 0 ∷ 0 ∷ 0 ∷ [])) 16
    ∷ figure (number (front 9 1 0)) 16
    -- 201 bytes that say 200, 201 and 202; one byte more, and one hour more, that say 201 and what they are
    ∷ figure (number (record_of 200 1 0 24 (every 1) (every 0))) 16
    ∷ figure (number (record_of 201 1 0 24 (every 1) (every 0))) 0
    ∷ figure (number (record_of 202 1 0 24 (every 1) (every 0))) 16
    ∷ figure (number (day 0 (every 1) (every 0) ++ (0 ∷ []))) 16
    ∷ figure (number (record_of 202 1 0 24 (every 1) (every 0) ++ (0 ∷ []))) 16
    ∷ figure (number (record_of 201 1 0 25 (every 1) (every 0))) 16
    ∷ figure (number (record_of 209 1 0 25 (every 1) (every 0))) 16
    -- a record of one day for a month of two days, and the other way round
    ∷ figure (first_of (record_tests (month_from 2 1 0) (day 0 (every 1) (every 0)))) 16
    ∷ figure (first_of (record_tests (month_from 2 1 0) (days 0 (every 1) (every 0)))) 0
    ∷ figure (number (days 0 (every 1) (every 0))) 16
    -- a month of no days, which no accepted sheet has: 9 + 192 × 0 = 9 bytes, the front alone
    ∷ figure (first_of (record_tests (month_from 0 1 0) (front 9 1 0))) 0
    -- consumers 2, 3 and 255 of three
    ∷ figure (number (record_of 201 2 0 24 (every 1) (every 0))) 0
    ∷ figure (number (record_of 201 3 0 24 (every 1) (every 0))) 16
    ∷ figure (number (record_of 201 255 0 24 (every 1) (every 0))) 16
    -- 10,000.0 and 10,000.1 as imported power; drawn in a control hour, in the first and in the last hour;
    -- sent out in these
    ∷ figure (number (day 100000 (every 100000) (every 100000))) 0
    ∷ figure (number (day 100001 (every 0) (every 0))) 17
    ∷ figure (number (day 0 (in_hour 17 100001 (every 0)) (every 0))) 17
    ∷ figure (number (day 0 (in_hour 0 100001 (every 0)) (every 0))) 17
    ∷ figure (number (day 0 (in_hour 23 100001 (every 0)) (every 0))) 17
    ∷ figure (number (day 0 (every 0) (in_hour 17 100001 (every 0)))) 17
    ∷ figure (number (day 0 (every 0) (in_hour 0 100001 (every 0)))) 17
    ∷ figure (number (day 0 (every 0) (in_hour 23 100001 (every 0)))) 17
    -- 10,000.1 drawn and 0.1 sent out in one hour: net power, 10,000.0, is at the ceiling, but the power
    -- drawn is above it
    ∷ figure (number (day 0 (in_hour 17 100001 (every 0)) (every 1))) 17
    -- the order of the numbers: no such consumer, and 10,000.1 sent out; the front alone, with 10,000.1
    -- imported
    ∷ figure (number (record_of 201 3 0 24 (every 0) (every 100001))) 16
    ∷ figure (number (front 9 1 100001)) 16
    ∷ []

-- A consumer whose six figures are 1 to 6, beside two others, with a peak of 7: all else stays.
abbrev with_peak_7 : ℕ → Consumer
with_peak_7 c = (with_peak_of (month 28 1 0 [] [] (consumer 11 12 13 14 15 16 ∷ consumer 1 2 3 4 5 6 ∷ consumer 21 22 23 24 25 26 ∷ [])) 1 7).consumer c

unfoldable pub peak_figures : List Figure
peak_figures =
    figure (with_peak_7 1).contract 1
    ∷ figure (with_peak_7 1).peak 7
    ∷ figure (with_peak_7 1).supplier 3
    ∷ figure (with_peak_7 1).grid 4
    ∷ figure (with_peak_7 1).z 5
    ∷ figure (with_peak_7 1).price 6
    ∷ figure (with_peak_7 0).peak 12
    ∷ figure (with_peak_7 2).peak 22
    ∷ []

-- By computation: no peak and no number is wrong.
pub peak_cases_hold : wrong peak_cases ≡ []
unfolding settlement layout averaging powers_from peak_cases
peak_cases_hold = refl

pub record_cases_hold : wrong record_cases ≡ []
unfolding settlement layout averaging powers_from record_cases
record_cases_hold = refl

pub peak_figures_hold : wrong peak_figures ≡ []
unfolding settlement peak_figures
peak_figures_hold = refl

-- A consumer, 15 bytes: contract volume 100.0 (1,000 = 3 × 256 + 232), its peak in four bytes, no mining
-- days, z in tenths, price 0.
abbrev consumer_bytes : List ℕ → ℕ → List ℕ
consumer_bytes peak z = (0 ∷ 0 ∷ 3 ∷ 232 ∷ []) ++ peak ++ (0 ∷ 0 ∷ z ∷ 0 ∷ 0 ∷ 0 ∷ 0 ∷ [])

-- A sheet of a month from a Monday on, with no producer, no row and three consumers, 14 + 3 × 15 = 59 bytes:
-- its version, its days, the peak of consumer 1, the z of consumer 2. The other two have peaks of 0.9.
abbrev three_consumers : ℕ → ℕ → List ℕ → ℕ → List ℕ
three_consumers version days peak z =
    (0 ∷ 0 ∷ 0 ∷ 59 ∷ version ∷ days ∷ 1 ∷ 0 ∷ 0 ∷ 0 ∷ 0 ∷ 0 ∷ 0 ∷ 3 ∷ [])
    ++ consumer_bytes (0 ∷ 0 ∷ 0 ∷ 9 ∷ []) 10
    ++ consumer_bytes peak 10
    ++ consumer_bytes (0 ∷ 0 ∷ 0 ∷ 9 ∷ []) z

abbrev plain : List ℕ
plain = three_consumers 1 28 (0 ∷ 0 ∷ 0 ∷ 9 ∷ []) 10

-- A record of one day, by its bytes: 201 in all, consumer 1, 20.0 (200) imported; in every hour 100.0 (3 ×
-- 256 + 232) drawn and 30.0 (256 + 44) sent out.
abbrev one_day : List ℕ
one_day =
    (0 ∷ 0 ∷ 0 ∷ 201 ∷ 1 ∷ 0 ∷ 0 ∷ 0 ∷ 200 ∷ []) ++ joined (λ i. 0 ∷ 0 ∷ 3 ∷ 232 ∷ 0 ∷ 0 ∷ 1 ∷ 44 ∷ []) 24

-- The sheet of that day with the peak of 50.0 (500 = 256 + 244): it is written for consumer 1, and no other
-- byte changes. (A sheet that is accepted has 28 days or more, and its record too many bytes to be computed
-- here: the stored records have such cases.) The sheet states version 2, so that its fifth byte is not the
-- consumer's number too; the peak before is higher, 6,605.7 (66,057 = 65,536 + 2 × 256 + 9).
pub peak_is_written : peak_written (three_consumers 2 1 (0 ∷ 1 ∷ 2 ∷ 9 ∷ []) 10) one_day
    ≡ three_consumers 2 1 (0 ∷ 0 ∷ 1 ∷ 244 ∷ []) 10
unfolding settlement layout averaging
peak_is_written = refl

-- In version 3 too. [Requests, 7]
pub peak_written_in_3 : peak_written (three_consumers 3 1 (0 ∷ 1 ∷ 2 ∷ 9 ∷ []) 10) one_day
    ≡ three_consumers 3 1 (0 ∷ 0 ∷ 1 ∷ 244 ∷ []) 10
unfolding settlement layout averaging
peak_written_in_3 = refl

-- A record of one day leaves a sheet of 28 days as it was.
pub day_outcome : average_outcome plain one_day ≡ refused 16
unfolding settlement layout averaging
day_outcome = refl

pub day_kept : averaged plain one_day ≡ plain
unfolding settlement layout averaging
day_kept = refl

unfoldable pub order_cases : List Figure
order_cases =
    -- no record, and the sheet's numbers, which come first: z 0.9; version 4
    figure (average_refusal plain []) 16
    ∷ figure (average_refusal (three_consumers 1 28 (0 ∷ 0 ∷ 0 ∷ 9 ∷ []) 9) []) 12
    ∷ figure (average_refusal (three_consumers 4 28 (0 ∷ 0 ∷ 0 ∷ 9 ∷ []) 10) []) 3
    -- 201 bytes whose front would be that of a sheet of one day with 255 consumers: the days are the sheet's
    ∷ figure (average_refusal plain ((0 ∷ 0 ∷ 0 ∷ 201 ∷ 1 ∷ 1 ∷ 1 ∷ 0 ∷ 0 ∷ 0 ∷ 0 ∷ 0 ∷ 0 ∷ 255 ∷ []) ++ replicate 187 0)) 16
    ∷ []

pub order_cases_hold : wrong order_cases ≡ []
unfolding settlement layout averaging order_cases
order_cases_hold = refl
