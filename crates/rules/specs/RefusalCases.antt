-- Sheets and months of our own for every refusal, at each limit and just past it, and the number that
-- document 01 gives them.
use Rattle.std.specs.Prelude.{ℕ, List, [], ◌∷◌, ◌++◌, replicate, ◌≡◌, refl}
use Rattle.rules.specs.Range.{when}
use Rattle.rules.specs.Units.{one}
use Rattle.rules.specs.Month.{Producer, Month}
use Rattle.rules.specs.Refusals.{figure_tests, sheet_tests, tests, applies, first_of, refusal}
use Rattle.rules.specs.Samples.{producer, row, consumer, month, every, first_hours, Figure, figure, wrong}
use Rattle.rules.specs.Open.{settlement, layout}

-- A header alone, 14 bytes: length field (its last byte), version, days, weekday, the four bytes of holidays,
-- P, R, C.
abbrev header : ℕ → ℕ → ℕ → ℕ → List ℕ → ℕ → ℕ → ℕ → List ℕ
header length version days weekday holidays P R C =
    (0 ∷ 0 ∷ 0 ∷ length ∷ version ∷ days ∷ weekday ∷ []) ++ holidays ++ (P ∷ R ∷ C ∷ [])

abbrev no_holiday : List ℕ
no_holiday = 0 ∷ 0 ∷ 0 ∷ 0 ∷ []

-- A month with a single consumer whose z is 0.9 and all else 0, in a sheet of a version.
abbrev low_z : ℕ → List ℕ
low_z version = header 29 version 28 1 no_holiday 0 0 1 ++ replicate 10 0 ++ (9 ∷ 0 ∷ 0 ∷ 0 ∷ 0 ∷ [])

unfoldable pub form_cases : List Figure
form_cases =
    -- a month without producers, rows and consumers, and a result buffer of 21 bytes, then of 20
    figure (refusal (header 14 1 28 1 no_holiday 0 0 0) 21) 0
    ∷ figure (refusal (header 14 1 28 1 no_holiday 0 0 0) 20) 7
    -- nothing; 13 bytes that say 14
    ∷ figure (refusal [] 21) 1
    ∷ figure (refusal (0 ∷ 0 ∷ 0 ∷ 14 ∷ 1 ∷ 28 ∷ 1 ∷ 0 ∷ 0 ∷ 0 ∷ 0 ∷ 0 ∷ 0 ∷ []) 21) 1
    -- the length field is one less and one more than 14
    ∷ figure (refusal (header 13 1 28 1 no_holiday 0 0 0) 21) 2
    ∷ figure (refusal (header 15 1 28 1 no_holiday 0 0 0) 21) 2
    ∷ figure (refusal (header 14 0 28 1 no_holiday 0 0 0) 21) 3
    ∷ figure (refusal (header 14 2 28 1 no_holiday 0 0 0) 21) 0
    ∷ figure (refusal (header 14 3 28 1 no_holiday 0 0 0) 21) 0
    ∷ figure (refusal (header 14 4 28 1 no_holiday 0 0 0) 21) 3
    -- days 27, 31, 32; weekday 0, 7, 8
    ∷ figure (refusal (header 14 1 27 1 no_holiday 0 0 0) 21) 4
    ∷ figure (refusal (header 14 1 31 7 no_holiday 0 0 0) 21) 0
    ∷ figure (refusal (header 14 1 32 1 no_holiday 0 0 0) 21) 4
    ∷ figure (refusal (header 14 1 28 0 no_holiday 0 0 0) 21) 4
    ∷ figure (refusal (header 14 1 28 8 no_holiday 0 0 0) 21) 4
    -- day 28 is a holiday (2^27), day 29 of 28 (2^28), day 32 of 31 (2^31)
    ∷ figure (refusal (header 14 1 28 1 (8 ∷ 0 ∷ 0 ∷ 0 ∷ []) 0 0 0) 21) 0
    ∷ figure (refusal (header 14 1 28 1 (16 ∷ 0 ∷ 0 ∷ 0 ∷ []) 0 0 0) 21) 4
    ∷ figure (refusal (header 14 1 31 1 (128 ∷ 0 ∷ 0 ∷ 0 ∷ []) 0 0 0) 21) 4
    -- seven producers, 33 rows, 33 consumers; then as many as there may be, in too short a sheet
    ∷ figure (refusal (header 14 1 28 1 no_holiday 7 0 0) 21) 5
    ∷ figure (refusal (header 14 1 28 1 no_holiday 0 33 0) 21) 5
    ∷ figure (refusal (header 14 1 28 1 no_holiday 0 0 33) 21) 5
    ∷ figure (refusal (header 14 1 28 1 no_holiday 6 32 32) 21) 6
    ∷ figure (refusal (header 14 1 28 1 no_holiday 0 0 1) 21) 6
    -- several at once: the first number counts
    ∷ figure (refusal (header 15 4 27 1 no_holiday 7 0 0) 0) 2
    ∷ figure (refusal (header 14 4 27 1 no_holiday 7 0 0) 0) 3
    ∷ figure (refusal (header 14 1 27 1 no_holiday 7 0 0) 0) 4
    ∷ figure (refusal (header 14 1 28 1 no_holiday 7 0 0) 0) 5
    -- a buffer one byte short of the result's 21 + 25, and z too low; then z alone. 12 applies to the first
    -- too, and there is no 13
    ∷ figure (refusal (low_z 1) 45) 7
    ∷ figure (refusal (low_z 1) 46) 12
    ∷ figure (when (applies 12 (tests (low_z 1) 45)) 1) 1
    ∷ figure (when (applies 13 (tests (low_z 1) 45)) 1) 0
    -- without a buffer: z too low, in sheets of versions 1, 2 and 3; and in one of version 4
    ∷ figure (first_of (sheet_tests (low_z 1))) 12
    ∷ figure (first_of (sheet_tests (low_z 2))) 12
    ∷ figure (first_of (sheet_tests (low_z 3))) 12
    ∷ figure (first_of (sheet_tests (low_z 4))) 3
    ∷ []

-- Power at the ceiling in all hours of a month of 28 days (H 672); past its end it is above, which does not
-- count.
abbrev highest : ℕ → ℕ
highest = first_hours 672 100000 (every 100001)

-- Power 0 but in the last hour of that month, hour 23 of day 28, where it is above the ceiling.
abbrev last_hour : ℕ → ℕ
last_hour = first_hours 671 0 (every 100001)

-- A producer with every figure at its limit.
abbrev plain : Producer
plain = producer 100000 100000 100000 672 672 672 [] highest highest highest

-- A producer after that one, with a row and a consumer at their limits.
abbrev with_producer : Producer → Month
with_producer p = month 28 1 0 (plain ∷ p ∷ []) (row 0 255 100000 200000000 ∷ []) (consumer 100000 100000 28 28 100 200000000 ∷ [])

-- A row after another, with one producer and three consumers: producer, consumer, volume, price.
abbrev with_row : ℕ → ℕ → ℕ → ℕ → Month
with_row p c volume price =
    month 28 1 0
    (plain ∷ [])
    (row 0 255 0 0 ∷ row p c volume price ∷ [])
    (consumer 0 0 0 0 10 0 ∷ consumer 0 0 0 0 10 0 ∷ consumer 0 0 0 0 10 0 ∷ [])

-- A consumer before another: contract volume, peak, T'', T''', z, price.
abbrev with_consumer : ℕ → ℕ → ℕ → ℕ → ℕ → ℕ → Month
with_consumer contract peak supplier grid z price =
    month 28 1 0 [] [] (consumer contract peak supplier grid z price ∷ consumer 0 0 0 0 10 0 ∷ [])

abbrev number_of : Month → ℕ
number_of m = first_of (figure_tests m)

unfoldable pub figure_cases : List Figure
figure_cases =
    -- every figure at its limit
    figure (number_of (with_producer plain)) 0
    ∷ figure (number_of (with_producer (producer 0 0 0 673 0 0 [] (every 0) (every 0) (every 0)))) 8
    ∷ figure (number_of (with_producer (producer 0 0 0 0 673 0 [] (every 0) (every 0) (every 0)))) 8
    ∷ figure (number_of (with_producer (producer 0 0 0 0 0 673 [] (every 0) (every 0) (every 0)))) 8
    ∷ figure (number_of (with_producer (producer 0 0 0 0 0 0 (1000001 ∷ []) (every 0) (every 0) (every 0)))) 8
    ∷ figure (number_of (with_producer (producer 0 0 0 0 0 0 (one ∷ 1000001 ∷ []) (every 0) (every 0) (every 0)))) 8
    ∷ figure (number_of (with_producer (producer 0 0 0 0 0 0 (one ∷ one ∷ 1000001 ∷ []) (every 0) (every 0) (every 0)))) 8
    ∷ figure (number_of (with_producer (producer 0 0 0 0 0 0 (one ∷ one ∷ one ∷ 1000001 ∷ []) (every 0) (every 0) (every 0)))) 8
    ∷ figure (number_of (with_producer (producer 0 0 0 0 0 0 (one ∷ one ∷ one ∷ one ∷ 1000001 ∷ []) (every 0) (every 0) (every 0)))) 8
    ∷ figure (number_of (with_producer (producer 0 0 0 0 0 0 (one ∷ one ∷ one ∷ one ∷ one ∷ 1000001 ∷ []) (every 0) (every 0) (every 0)))) 8
    ∷ figure (number_of (with_producer (producer 100001 0 0 0 0 0 [] (every 0) (every 0) (every 0)))) 9
    ∷ figure (number_of (with_producer (producer 0 100001 0 0 0 0 [] (every 0) (every 0) (every 0)))) 9
    ∷ figure (number_of (with_producer (producer 0 0 100001 0 0 0 [] (every 0) (every 0) (every 0)))) 9
    ∷ figure (number_of (with_producer (producer 0 0 0 0 0 0 [] last_hour (every 0) (every 0)))) 9
    ∷ figure (number_of (with_producer (producer 0 0 0 0 0 0 [] (every 0) last_hour (every 0)))) 9
    ∷ figure (number_of (with_producer (producer 0 0 0 0 0 0 [] (every 0) (every 0) last_hour))) 9
    ∷ figure (number_of (with_row 0 255 100001 0)) 9
    ∷ figure (number_of (with_consumer 100001 0 0 0 10 0)) 9
    ∷ figure (number_of (with_consumer 0 100001 0 0 10 0)) 9
    -- row's producer 0 of 1, then 1 and 2; consumer 2 of 3, then 3, 254 and 255
    ∷ figure (number_of (with_row 0 2 0 0)) 0
    ∷ figure (number_of (with_row 1 0 0 0)) 10
    ∷ figure (number_of (with_row 2 0 0 0)) 10
    ∷ figure (number_of (with_row 0 3 0 0)) 10
    ∷ figure (number_of (with_row 0 254 0 0)) 10
    ∷ figure (number_of (with_row 0 255 0 0)) 0
    ∷ figure (number_of (with_row 0 255 0 200000001)) 11
    ∷ figure (number_of (with_consumer 0 0 0 0 10 200000001)) 11
    ∷ figure (number_of (with_consumer 0 0 29 0 10 0)) 12
    ∷ figure (number_of (with_consumer 0 0 0 29 10 0)) 12
    ∷ figure (number_of (with_consumer 0 0 0 0 9 0)) 12
    ∷ figure (number_of (with_consumer 0 0 0 0 101 0)) 12
    -- several at once: the first number counts
    ∷ figure (number_of (with_producer (producer 100001 0 0 673 0 0 [] (every 0) (every 0) (every 0)))) 8
    ∷ figure (number_of (with_consumer 100001 0 29 0 10 200000001)) 9
    ∷ figure (number_of (with_consumer 0 0 29 0 10 200000001)) 11
    ∷ figure (number_of (with_row 1 0 0 200000001)) 10
    -- also across the sheet: the row has 10 and 11, the consumer after it 9
    ∷ figure (number_of (month 28 1 0 [] (row 0 255 0 200000001 ∷ []) (consumer 100001 0 0 0 10 0 ∷ []))) 9
    ∷ []

unfoldable pub refusal_cases : List Figure
refusal_cases = form_cases ++ figure_cases

-- All at once, by computation: no number is wrong.
pub refusal_cases_hold : wrong refusal_cases ≡ []
unfolding settlement layout form_cases figure_cases refusal_cases
refusal_cases_hold = refl
