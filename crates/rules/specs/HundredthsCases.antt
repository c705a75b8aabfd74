-- Outside use to a hundredth of a megawatt: figures of our own for k1. D and averages are in hundredths of a
-- megawatt, n × D in thousandths, T and deductible capacity in tenths, coefficients in millionths. [Requests,
-- 6]
use Rattle.std.specs.Prelude.{ℕ, ◌+◌, ◌*◌, ◌/◌, ◌%◌, List, [], ◌∷◌, ◌++◌, ◌≡◌, refl}
use Rattle.rules.specs.Units.{tenth, hundredth}
use Rattle.rules.specs.Month.{Month}
use Rattle.rules.specs.ControlHours.{control_average}
use Rattle.rules.specs.Coefficients.{overuse, penalty}
use Rattle.rules.specs.Samples.{every, first_hours, k1, Figure, figure, wrong}
use Rattle.rules.specs.Slips.{outside_month}
use Rattle.rules.specs.Open.{settlement}

-- From Monday to Friday there are 30 control hours. Outside use of so many tenths, 0.1 more in the first 3 of
-- these hours for each hundredth: on average so many tenths and hundredths.
abbrev use_of : ℕ → ℕ → ℕ → ℕ
use_of tenths hundredths =
    first_hours (24 * (hundredths / 2) + hundredths % 2 * 20) (tenths + 1) (every tenths)

-- k1 with T, deductible, and an average of so many tenths and hundredths.
abbrev k1_of : ℕ → ℕ → ℕ → ℕ → ℕ
k1_of T deductible tenths hundredths = k1 (outside_month 5 T deductible (use_of tenths hundredths))

-- D, n × D and an average of that producer.
abbrev overuse_in : Month → ℕ
overuse_in m = overuse m.header (m.producer 0)

abbrev penalty_in : Month → ℕ
penalty_in m = penalty m.header (m.producer 0)

abbrev average_to : ℕ → Month → ℕ
average_to fineness m = control_average fineness m.header (m.producer 0).outside_use

-- T 10.0. In each of these months the average rounded to a tenth would meet another factor.
unfoldable pub other_band_figures : List Figure
other_band_figures =
    -- p 50: deductible 1.0, average 1.05, D 0.05, n 0. By the tenth 1.1, p 100, 1 - 1.3 × 0.1 / 10 = 0.987
    figure (k1_of 100 10 10 5) 1000000
    -- p 55: deductible 2.0, average 2.11, D 0.11, 1 - 1.3 × 0.11 / 10 = 0.9857. By the tenth 2.1, p 50, 1
    ∷ figure (k1_of 100 20 21 1) 985700
    -- p 200: deductible 0.3, average 0.36, D 0.06, 1 - 1.3 × 0.06 / 10 = 0.9922. By the tenth 0.4, p 333, 1 -
    -- 1.5 × 0.1 / 10 = 0.985
    ∷ figure (k1_of 100 3 3 6) 992200
    -- p 210: deductible 1.0, average 1.21, D 0.21, 1 - 1.5 × 0.21 / 10 = 0.9685. By the tenth 1.2, p 200, 1 -
    -- 1.3 × 0.2 / 10 = 0.974
    ∷ figure (k1_of 100 10 12 1) 968500
    -- p 240: average 1.24, D 0.24, 1 - 1.5 × 0.24 / 10 = 0.964. By the tenth 1.2 too
    ∷ figure (k1_of 100 10 12 4) 964000
    -- p 400: deductible 0.7, average 0.98, D 0.28, 1 - 1.5 × 0.28 / 10 = 0.958. By the tenth 1.0, p 429, 1 -
    -- 1.7 × 0.3 / 10 = 0.949
    ∷ figure (k1_of 100 7 9 8) 958000
    -- p 410: deductible 1.0, average 1.41, D 0.41, 1 - 1.7 × 0.41 / 10 = 0.9303. By the tenth 1.4, p 400, 1 -
    -- 1.5 × 0.4 / 10 = 0.94
    ∷ figure (k1_of 100 10 14 1) 930300
    -- p 500: deductible 0.5, average 0.75, D 0.25, 1 - 1.7 × 0.25 / 10 = 0.9575. By the tenth 0.8, p 600, 1 -
    -- 2 × 0.3 / 10 = 0.94
    ∷ figure (k1_of 100 5 7 5) 957500
    -- p 510: deductible 1.0, average 1.51, D 0.51, 1 - 2 × 0.51 / 10 = 0.898. By the tenth 1.5, p 500, 1 -
    -- 1.7 × 0.5 / 10 = 0.915
    ∷ figure (k1_of 100 10 15 1) 898000
    -- p, half upward, over deductible 20.0 and with T 100.0: D 1.01 is 50.5, so 51, 1 - 1.3 × 1.01 / 100 =
    -- 0.98687. D 4.01 is 200.5, so 201, 1 - 1.5 × 4.01 / 100 = 0.93985; D 8.01 is 400.5, so 401, 1 - 1.7 ×
    -- 8.01 / 100 = 0.86383; D 10.01 is 500.5, so 501, 1 - 2 × 10.01 / 100 = 0.7998. By the tenth D is 1.0,
    -- 4.0, 8.0 and 10.0, and p the edge
    ∷ figure (k1_of 1000 200 210 1) 986870
    ∷ figure (k1_of 1000 200 240 1) 939850
    ∷ figure (k1_of 1000 200 280 1) 863830
    ∷ figure (k1_of 1000 200 300 1) 799800
    ∷ []

-- A Monday and a Tuesday have 12 control hours: 0.6 in 3 of them and 0.5 in 9 are on average 0.525.
abbrev half_use : ℕ → ℕ
half_use = first_hours 20 6 (every 5)

unfoldable pub hundredth_figures : List Figure
hundredth_figures =
    -- half a hundredth, upward: 0.525 is 0.53. Over deductible 0.5: D 0.03, p 60, 1 - 1.3 × 0.03 / 10 =
    -- 0.9961. Downward D would be 0.02, p 40, and k1 1
    figure (overuse_in (outside_month 2 100 5 half_use)) 3
    ∷ figure (k1 (outside_month 2 100 5 half_use)) 996100
    -- a third: 0.1 in one of the 30 control hours is 0.0033, rounded 0.00; in two of them 0.0067, rounded
    -- 0.01
    ∷ figure (overuse_in (outside_month 5 100 0 (first_hours 18 1 (every 0)))) 0
    ∷ figure (overuse_in (outside_month 5 100 0 (first_hours 19 1 (every 0)))) 1
    -- deductible 0.1: average 0.10, D 0, 1. Average 0.11, D 0.01, p 100, n × D 0.013: 1 - 0.013 / 10 =
    -- 0.9987; of T 0.1, 1 - 0.13 = 0.87
    ∷ figure (k1_of 100 1 1 0) 1000000
    ∷ figure (overuse_in (outside_month 5 100 1 (use_of 1 1))) 1
    ∷ figure (penalty_in (outside_month 5 100 1 (use_of 1 1))) 13
    ∷ figure (k1_of 100 1 1 1) 998700
    ∷ figure (k1_of 1 1 1 1) 870000
    -- D 0.01 within the first band: deductible 1.0, average 1.01, p 10, n 0
    ∷ figure (overuse_in (outside_month 5 100 10 (use_of 10 1))) 1
    ∷ figure (k1_of 100 10 10 1) 1000000
    -- deductible 0: average 0.01, p 501, 1 - 2 × 0.01 / 10 = 0.998. Without outside use 1
    ∷ figure (k1_of 100 0 0 1) 998000
    ∷ figure (k1_of 100 0 0 0) 1000000
    -- T is 0: 1 where n × D is 0, as of D 0.01 over 1.0; 0 where it is 0.013
    ∷ figure (k1_of 0 10 10 1) 1000000
    ∷ figure (k1_of 0 1 1 1) 0
    -- not below 0: T 0.1 over deductible 0; 2 × 0.04 leaves 0.2 of it, 2 × 0.05 nothing, 2 × 0.06 no less
    ∷ figure (k1_of 1 0 0 4) 200000
    ∷ figure (k1_of 1 0 0 5) 0
    ∷ figure (k1_of 1 0 0 6) 0
    -- k1, half upward: n × D 0.013 of T 3.2, 1 - 0.0040625 = 0.9959375
    ∷ figure (k1_of 32 1 1 1) 995938
    -- the highest: an average of 10,000.00 over deductible 0 is D 10,000.00, n × D 20,000.000
    ∷ figure (penalty_in (outside_month 1 100 0 (every 100000))) 20000000
    -- each average is rounded once: 1.1 in 11 of 24 control hours and 1.0 in 13 are 1.0458, to a hundredth
    -- 1.05, to a tenth 1.0
    ∷ figure (average_to hundredth (outside_month 4 0 0 (first_hours 46 11 (every 10)))) 105
    ∷ figure (average_to tenth (outside_month 4 0 0 (first_hours 46 11 (every 10)))) 10
    ∷ []

pub outside_use_to_a_hundredth : wrong (other_band_figures ++ hundredth_figures) ≡ []
unfolding settlement outside_month other_band_figures hundredth_figures
outside_use_to_a_hundredth = refl
