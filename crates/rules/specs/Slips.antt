-- Months of our own, worked out by hand from document 01: each slip, band edge, zero rule and half gives
-- another figure where it is got wrong. Figures are in the unit's whole numbers: tenths of a megawatt,
-- hundredths for averages of outside use, thousandths for p, tenths for n, millionths for coefficients, tiyn.
use Rattle.std.specs.Prelude.{ℕ, List, [], ◌∷◌, ◌++◌, ◌≡◌, refl}
use Rattle.rules.specs.Units.{one, millionths_ceiling, tenth, hundredth}
use Rattle.rules.specs.Month.{Month}
use Rattle.rules.specs.ControlHours.{control_count, control_average}
use Rattle.rules.specs.Cut.{excess, after_cut, cut_in_order, own_rows}
use Rattle.rules.specs.Rows.{actual, payment}
use Rattle.rules.specs.Consumers.{credit, counted_peak, percent, band, volume, charge}
use Rattle.rules.specs.Totals.{total_paid, total_charged}
use Rattle.rules.specs.Samples.{
  producer,
  row,
  consumer,
  month,
  every,
  at_hour,
  first_hours,
  k1,
  k2,
  k4,
  k5,
  Figure,
  figure,
  wrong,
}
use Rattle.rules.specs.Open.{settlement}

-- Control hours
-- ------------------------------------------------------------------------------------------------------------------------

-- One producer's outside use, with nothing else to count, in a month with a weekday of day 1 and holidays.
unfoldable pub use_month : ℕ → ℕ → ℕ → (ℕ → ℕ) → Month
use_month days weekday holidays outside =
    month days weekday holidays (producer 0 0 0 0 0 0 [] (every 0) (every 0) outside ∷ []) [] []

-- Its average, rounded to a hundredth, as k1 takes it.
abbrev average_use : Month → ℕ
average_use m = control_average hundredth m.header (m.producer 0).outside_use

abbrev control_hours_of : Month → ℕ
control_hours_of m = control_count m.header

unfoldable pub control_hour_figures : List Figure
control_hour_figures =
    -- 30 days from a Monday: 4 weeks of 5 days, a Monday and a Tuesday, 22 days of 6 hours
    figure (control_hours_of (use_month 30 1 0 (every 0))) 132
    -- 31 days from a Saturday: 2 days, then 4 weeks and a Monday, 21 days
    ∷ figure (control_hours_of (use_month 31 6 0 (every 0))) 126
    -- the same with days 1 and 4 as holidays (bits 1 + 8): day 1 is a Saturday anyway, day 4 a Tuesday
    ∷ figure (control_hours_of (use_month 31 6 9 (every 0))) 120
    -- 28 days from a Sunday with day 28, a Saturday, as a holiday (2^27): 4 weeks of 5 days
    ∷ figure (control_hours_of (use_month 28 7 134217728 (every 0))) 120
    -- hours 16 and 23 do not count: 100.0 stays, though both read 900.0. With hour 23: (6 × 100 + 900) / 7 =
    -- 214.29
    ∷ figure (average_use (use_month 30 1 0 (at_hour 16 9000 (at_hour 23 9000 (every 1000))))) 10000
    -- hours 17 and 22 do: (400 + 4 × 100 + 250) / 6 = 175.0
    ∷ figure (average_use (use_month 30 1 0 (at_hour 17 4000 (at_hour 22 2500 (every 1000))))) 17500
    -- day 1 alone is read at 26.5, and is one of 22 control days: 26.5 / 22 = 1.2045, rounded 1.20
    ∷ figure (average_use (use_month 30 1 0 (first_hours 24 265 (every 0)))) 120
    -- half upward: 28 days from a Monday have 20 control days; 100.1 on one of them and 100.0 on the rest
    -- make 100.005
    ∷ figure (average_use (use_month 28 1 0 (first_hours 24 1001 (every 1000)))) 10001
    -- rounded to a tenth, as a complex's average is: three control hours of 100.1 and three of 100.0 make
    -- 100.05, half upward
    ∷ figure (control_average tenth (use_month 30 1 0 (every 0)).header (at_hour 17 1001 (at_hour 18 1001 (at_hour 19 1001 (every 1000))))) 1001
    -- no control day: all 30 days are holidays (2^30 - 1), average 0
    ∷ figure (average_use (use_month 30 1 1073741823 (every 9000))) 0
    ∷ []

-- k1
-- ------------------------------------------------------------------------------------------------------------------------------------

-- A producer with T, deductible and outside use, in so many days from a Monday.
unfoldable pub outside_month : ℕ → ℕ → ℕ → (ℕ → ℕ) → Month
outside_month days T deductible outside =
    month days 1 0
    (producer 100000 deductible 0 0 0 0 [] (every 0) (every 0) outside ∷ [])
    (row 0 255 T 0 ∷ [])
    []

-- The same on one Monday, with outside use alike in every hour, so that the control average is that use.
abbrev k1_month : ℕ → ℕ → ℕ → Month
k1_month T deductible outside = outside_month 1 T deductible (every outside)

-- The same without a support row: its one row is bilateral, so T is 0.
unfoldable pub no_support_month : ℕ → ℕ → Month
no_support_month deductible outside =
    month 1 1 0
    (producer 100000 deductible 0 0 0 0 [] (every 0) (every 0) (every outside) ∷ [])
    (row 0 0 1000 0 ∷ [])
    (consumer 0 0 0 0 10 0 ∷ [])

unfoldable pub k1_figures : List Figure
k1_figures =
    -- band edges over deductible 100.0, T 200.0: D is p / 10 MW, and k1 = 1 - n × D / 200
    figure (k1 (k1_month 2000 1000 1050)) 1000000
    -- 1.3 × 5.1 = 6.63; 6.63 / 200 = 0.03315
    ∷ figure (k1 (k1_month 2000 1000 1051)) 966850
    -- 1.3 × 20 = 26; 26 / 200 = 0.13
    ∷ figure (k1 (k1_month 2000 1000 1200)) 870000
    -- 1.5 × 20.1 = 30.15; 30.15 / 200 = 0.15075
    ∷ figure (k1 (k1_month 2000 1000 1201)) 849250
    -- 1.5 × 40 = 60; 60 / 200 = 0.3
    ∷ figure (k1 (k1_month 2000 1000 1400)) 700000
    -- 1.7 × 40.1 = 68.17; 68.17 / 200 = 0.34085
    ∷ figure (k1 (k1_month 2000 1000 1401)) 659150
    -- 1.7 × 50 = 85; 85 / 200 = 0.425
    ∷ figure (k1 (k1_month 2000 1000 1500)) 575000
    -- 2 × 50.1 = 100.2; 100.2 / 200 = 0.501
    ∷ figure (k1 (k1_month 2000 1000 1501)) 499000
    -- not below 0: 100.2 of T 100.0
    ∷ figure (k1 (k1_month 1000 1000 1501)) 0
    -- outside use below deductible: D is 0
    ∷ figure (k1 (k1_month 2000 1000 10)) 1000000
    -- p, half upward: D 10.1 over 200.0 is 50.5, so 51; 1.3 × 10.1 = 13.13; 13.13 / 200 = 0.06565
    ∷ figure (k1 (k1_month 2000 2000 2101)) 934350
    -- k1, half upward: D 1.1 over 10.0 is 110; 1.3 × 1.1 = 1.43; 1 - 1.43 / 6.4 = 0.7765625
    ∷ figure (k1 (k1_month 64 100 111)) 776563
    -- Q is 0 and E is not: p 501, n 2; 2 × 1.0 = 2; 2 / 100 = 0.02
    ∷ figure (k1 (k1_month 1000 0 10)) 980000
    -- Q is 0 and E too: n × D is 0
    ∷ figure (k1 (k1_month 1000 0 0)) 1000000
    -- T is 0 and D: 1; T is 0 and n, though D is 5.0 (p 50): 1; T is 0 and n × D is 1.3 × 5.1: 0
    ∷ figure (k1 (no_support_month 1000 1000)) 1000000
    ∷ figure (k1 (no_support_month 1000 1050)) 1000000
    ∷ figure (k1 (no_support_month 1000 1051)) 0
    -- T is the support rows alone: a bilateral row beside one of 10.0 leaves 1 - 2 × 1.0 / 10 = 0.8
    ∷ figure
    (k1
    (month 1 1 0
    (producer 100000 0 0 0 0 0 [] (every 0) (every 0) (every 10) ∷ [])
    (row 0 0 900 0 ∷ row 0 255 100 0 ∷ [])
    (consumer 0 0 0 0 10 0 ∷ [])))
    800000
    ∷ []

-- k2, k4, k5
-- --------------------------------------------------------------------------------------------------------------------------

-- A producer with hours without an upward bid, a downward bid, a plan, in a month of 30 days (H 720).
unfoldable pub hours_month : ℕ → ℕ → ℕ → Month
hours_month up down plan =
    month 30 1 0 (producer 0 0 0 up down plan [] (every 0) (every 0) (every 0) ∷ []) [] []

-- A producer with S = volume + deductible, attested capacity, working and possible power.
unfoldable pub power_month : ℕ → ℕ → ℕ → (ℕ → ℕ) → (ℕ → ℕ) → Month
power_month attested volume deductible working possible =
    month 30 1 0
    (producer attested deductible 0 0 0 0 [] working possible (every 0) ∷ [])
    (row 0 255 volume 0 ∷ [])
    []

unfoldable pub hour_figures : List Figure
hour_figures =
    -- the larger count alone: 648 / 720. The two ratios multiplied would be 0.9 × 0.95 = 0.855
    figure (k2 (hours_month 72 36 0)) 900000
    ∷ figure (k2 (hours_month 36 72 0)) 900000
    -- nearest: 713 / 720 = 0.9902777.., rounded up; 719 / 720 = 0.9986111.., rounded down. (No half: H has
    -- too few factors of 2.)
    ∷ figure (k2 (hours_month 0 7 0)) 990278
    ∷ figure (k5 (hours_month 0 0 7)) 990278
    ∷ figure (k5 (hours_month 0 0 1)) 998611
    -- all hours missing, and none
    ∷ figure (k2 (hours_month 720 0 0)) 0
    ∷ figure (k5 (hours_month 720 720 0)) 1000000
    -- S 110.0 (with deductible 10.0) below possible 200.0, working 99.0: 99 / 110
    ∷ figure (k4 (power_month 100000 1000 100 (every 990) (every 2000))) 900000
    -- possible 80.0 below S, working 60.0: 60 / 80; working above possible counts as possible: 1
    ∷ figure (k4 (power_month 100000 1000 100 (every 600) (every 800))) 750000
    ∷ figure (k4 (power_month 100000 1000 100 (every 900) (every 800))) 1000000
    -- the sums over hours, not a mean of hours: possible 30.0 in the first 360 hours and 10.0 in the rest,
    -- working 20.0 in all; m is 360 × 30 + 360 × 10 = 14,400; met 360 × 20 + 360 × 10 = 10,800; 0.75. All
    -- working power, 720 × 20, over m would be 1
    ∷ figure (k4 (power_month 100000 1000 0 (every 200) (first_hours 360 300 (every 100)))) 750000
    -- half upward: possible 0.8 in 720 hours is 576.0; working 0.1 in 45 of them is 4.5; 1 / 128 = 0.0078125
    ∷ figure (k4 (power_month 100000 1000 0 (first_hours 45 1 (every 0)) (every 8))) 7813
    -- the sum of m is 0: possible 0, or S 0
    ∷ figure (k4 (power_month 100000 1000 100 (every 500) (every 0))) 1000000
    ∷ figure (k4 (power_month 100000 0 0 (every 500) (every 500))) 1000000
    -- S is that after the cut: 200.0 is cut to attested 150.0, possible 200.0, working 120.0: 120 / 150. With
    -- S before the cut, 0.6
    ∷ figure (k4 (power_month 1500 2000 0 (every 1200) (every 2000))) 800000
    -- lower possible power may pay more, so demand 3 holds it fixed: attested and S 200.0, working 150.0.
    -- Possible 200.0: 200 × 0.75 = 150.0; possible 150.0: 200.0
    ∷ figure (actual (power_month 2000 2000 0 (every 1500) (every 2000)) 0) 1500
    ∷ figure (actual (power_month 2000 2000 0 (every 1500) (every 1500)) 0) 2000
    ∷ []

-- The cut and the rows
-- --------------------------------------------------------------------------------------------------------------

-- A producer with attested capacity, deductible and own needs; all coefficients 1. Among its rows one of
-- another producer, whose attested capacity just covers it and whose k3 is 0.5.
unfoldable pub cut_month : ℕ → ℕ → ℕ → Month
cut_month attested deductible own_needs =
    month 30 1 0
    (producer attested deductible own_needs 0 0 0 [] (every 0) (every 0) (every 0)
    ∷ producer 700 0 0 0 0 0 (500000 ∷ []) (every 0) (every 0) (every 0)
    ∷ [])
    (row 0 255 600 0 ∷ row 1 255 700 0 ∷ row 0 0 400 0 ∷ row 0 255 200 0 ∷ [])
    (consumer 0 0 0 0 10 0 ∷ [])

-- Outside use of 11.7 in hour 17 of the first day and 12.0 in the other 131 control hours: on average 12 -
-- 0.3 / 132 = 11.9977, rounded 12.00. Hour 0 does not count.
abbrev mixed_use : ℕ → ℕ
mixed_use = at_hour 0 9000 (first_hours 18 117 (every 120))

-- A producer with that use and attested capacity; T 100.0, B 50.0, deductible 10.0, so S is 160.0; possible
-- power 200.0, working power 120.0. D is 2.00, p 200, n 1.3: k1 = 1 - 1.3 × 2 / 100 = 0.974. k4 = 120 / 160 =
-- 0.75.
unfoldable pub sold_month : ℕ → Month
sold_month attested =
    month 30 1 0
    (producer attested 100 0 0 0 0 [] (every 1200) (every 2000) mixed_use ∷ [])
    (row 0 255 1000 0 ∷ row 0 0 500 0 ∷ [])
    (consumer 0 0 0 0 10 0 ∷ [])

-- A support row of 0.1 and one of 9,999.9, so T is 10,000.0, with deductible 0.3 and own needs that keep the
-- cut away; outside use, hours without an upward bid and without a plan, the given coefficients, and working
-- power, of possible 1,000.0.
unfoldable pub order_month : ℕ → ℕ → ℕ → List ℕ → (ℕ → ℕ) → Month
order_month outside up plan given working =
    month 30 1 0
    (producer 100000 3 100000 up 0 plan given working (every 10000) (every outside) ∷ [])
    (row 0 255 1 0 ∷ row 0 255 99999 0 ∷ [])
    []

-- A support row with a volume and a price, the given coefficients, and k4 as working power over possible
-- 10,000.0: a second row of 10,000.0 keeps S above that, and own needs of 10,000.0 keep the cut away.
unfoldable pub row_month : ℕ → ℕ → List ℕ → ℕ → Month
row_month volume price given working =
    month 30 1 0
    (producer 100000 0 100000 0 0 0 given (every working) (every 100000) (every 0) ∷ [])
    (row 0 255 volume price ∷ row 0 255 100000 0 ∷ [])
    []

unfoldable pub row_figures : List Figure
row_figures =
    -- S 120.0, attested 70.0: the first row gives all of the 50.0, the last nothing. Taken from the last row
    -- back: 60.0, 10.0, 0
    figure (after_cut (cut_month 700 0 0) 0) 100
    ∷ figure (after_cut (cut_month 700 0 0) 2) 400
    ∷ figure (after_cut (cut_month 700 0 0) 3) 200
    -- attested 35.0: 60.0 from the first row, 25.0 from the next of its own, nothing from the last; the other
    -- producer's row stays, and its own producer's k3 halves it
    ∷ figure (after_cut (cut_month 350 0 0) 0) 0
    ∷ figure (after_cut (cut_month 350 0 0) 1) 700
    ∷ figure (actual (cut_month 350 0 0) 1) 350
    ∷ figure (after_cut (cut_month 350 0 0) 2) 150
    ∷ figure (after_cut (cut_month 350 0 0) 3) 200
    -- attested 0: all rows; deductible 10.0 is in S and has no row to give
    ∷ figure (after_cut (cut_month 0 100 0) 3) 0
    -- deductible 10.0 adds to the excess, own needs 30.0 take from it: 130 - 30 - 70 = 30.0; own needs above
    -- S: nothing is cut
    ∷ figure (after_cut (cut_month 700 100 300) 0) 300
    ∷ figure (after_cut (cut_month 0 100 1400) 0) 600
    -- D from the rounded average: from 11.9977 k1 would be 1 - 1.3 × 1.9977 / 100 = 0.97403
    ∷ figure (k1 (sold_month 1600)) 974000
    -- k1 and k4 count in rows of both kinds: 100 × 0.974 × 0.75 = 73.05, half upward; 50 × 0.974 × 0.75 =
    -- 36.525
    ∷ figure (actual (sold_month 1600) 0) 731
    ∷ figure (actual (sold_month 1600) 1) 365
    -- attested 155.0 cuts 5.0 from the first row: T 95.0, k1 0.972632; S 155.0, k4 0.774194; 95 × 0.972632 =
    -- 92.40004; × 0.774194 = 71.535557. With T before the cut 71.6, with S before it 69.3. The second row
    -- follows: 50 × 0.972632 × 0.774194 = 37.650293
    ∷ figure (actual (sold_month 1550) 0) 715
    ∷ figure (actual (sold_month 1550) 1) 377
    -- each given coefficient counts once: 3,000 × 0.9 × 0.8 × 0.7 × 0.6 × 0.5 × 0.4 = 3,000 × 0.06048 =
    -- 181.44
    ∷ figure (actual (row_month 30000 0 (900000 ∷ 800000 ∷ 700000 ∷ 600000 ∷ 500000 ∷ 400000 ∷ []) 100000) 0) 1814
    -- k5 counts too: 360 of 720 hours without a plan halve 10.0
    ∷ figure
    (actual
    (month 30 1 0 (producer 100000 0 0 0 0 360 [] (every 0) (every 0) (every 0) ∷ []) (row 0 255 100 0 ∷ []) [])
    0)
    50
    -- a tenth, half upward: 0.1 × 0.5 = 0.05
    ∷ figure (actual (row_month 1 0 (500000 ∷ []) 100000) 0) 1
    -- a millionth after each: 0.5 × 0.099999 = 0.0499995, rounded 0.050000, so 0.1. Rounded once, at the end:
    -- 0
    ∷ figure (actual (row_month 5 0 (99999 ∷ []) 100000) 0) 1
    -- the order: 0.1 × 0.499995 = 0.0499995, rounded 0.050000; × 0.99999 = 0.0499995, rounded 0.050000; so
    -- 0.1. The other way round 0.099999 × 0.499995 = 0.049999, so 0. For k3 and k4, then k3, k6, k7, k8, k9,
    -- k10 in pairs
    ∷ figure (actual (row_month 1 0 (499995 ∷ []) 99999) 0) 1
    ∷ figure (actual (row_month 1 0 (499995 ∷ 999990 ∷ []) 100000) 0) 1
    ∷ figure (actual (row_month 1 0 (one ∷ 499995 ∷ 999990 ∷ []) 100000) 0) 1
    ∷ figure (actual (row_month 1 0 (one ∷ one ∷ 499995 ∷ 999990 ∷ []) 100000) 0) 1
    ∷ figure (actual (row_month 1 0 (one ∷ one ∷ one ∷ 499995 ∷ 999990 ∷ []) 100000) 0) 1
    ∷ figure (actual (row_month 1 0 (one ∷ one ∷ one ∷ one ∷ 499995 ∷ 999990 ∷ []) 100000) 0) 1
    -- for k1 and k2, k2 and k3, k4 and k5, k5 and k6: one of the two is 0.5 (360 of 720 hours) and the other
    -- 0.999985. If 0.999985 comes first: 0.1 × 0.999985 = 0.0999985, rounded 0.099999; × 0.5 = 0.0499995,
    -- rounded 0.050000; so 0.1. If 0.5 does: 0.05 × 0.999985 = 0.04999925, rounded 0.049999; so 0. k1 of
    -- outside use 0.4: D 0.1 over 0.3, p 333, n 1.5; 1 - 1.5 × 0.1 / 10,000. k4 of working power 989.2 in the
    -- first hour: 1 - 10.8 / (720 × 1,000)
    ∷ figure (actual (order_month 4 360 0 [] (every 10000)) 0) 1
    ∷ figure (actual (order_month 0 360 0 (999985 ∷ []) (every 10000)) 0) 0
    ∷ figure (actual (order_month 0 0 360 [] (first_hours 1 9892 (every 10000))) 0) 1
    ∷ figure (actual (order_month 0 0 360 (one ∷ 999985 ∷ []) (every 10000)) 0) 0
    -- payment from the actual volume, nearest, half upward: 0.3 × 15 tiyn = 4.5; half of 0.6 at 11 tiyn = 3.3
    ∷ figure (payment (row_month 3 15 [] 100000) 0) 5
    ∷ figure (payment (row_month 6 11 (500000 ∷ []) 100000) 0) 3
    -- the largest volume at the largest price: 10,000 × 200,000,000 tiyn. The ceiling of a product is that
    -- volume in millionths
    ∷ figure (payment (row_month 100000 200000000 [] 100000) 0) 2000000000000
    ∷ figure millionths_ceiling 10000000000
    ∷ []

-- Consumers
-- -----------------------------------------------------------------------------------------------------------------------------

-- One consumer without a credit, in a month of 30 days.
unfoldable pub peak_month : ℕ → ℕ → ℕ → ℕ → ℕ → ℕ → Month
peak_month contract peak supplier grid z price =
    month 30 1 0 [] [] (consumer contract peak supplier grid z price ∷ [])

abbrev peak_volume : ℕ → ℕ → ℕ
peak_volume contract peak = volume (peak_month contract peak 0 0 10 0) 0

abbrev peak_percent : ℕ → ℕ → ℕ
peak_percent contract peak = percent (peak_month contract peak 0 0 10 0) 0

unfoldable pub consumer_figures : List Figure
consumer_figures =
    -- band edges over DO 200.0, with 1.05 × DO = 210.0 and 0.05 × DO = 10.0; p is Do × 5. Do 10.0, p 50: n is
    -- 0
    figure (peak_volume 2000 2200) 2000
    -- the volume does not show that n is 0, since Do - 0.05 × DO is 0 too
    ∷ figure (band (peak_month 2000 2200 0 0 10 0) 0) 0
    -- Do 10.2, p 51: 200 + 1.3 × 0.2 = 200.26
    ∷ figure (peak_volume 2000 2202) 2003
    -- Do 40.0, p 200: 200 + 1.3 × 30 = 239. Less 5 percent once only: 200 + 1.3 × 40 = 252
    ∷ figure (peak_volume 2000 2500) 2390
    -- Do 40.2, p 201: 200 + 1.5 × 30.2 = 245.3
    ∷ figure (peak_volume 2000 2502) 2453
    -- Do 80.0, p 400: 200 + 1.5 × 70 = 305
    ∷ figure (peak_volume 2000 2900) 3050
    -- Do 80.2, p 401: 200 + 1.7 × 70.2 = 319.34
    ∷ figure (peak_volume 2000 2902) 3193
    -- Do 100.0, p 500: 200 + 1.7 × 90 = 353
    ∷ figure (peak_volume 2000 3100) 3530
    -- Do 100.2, p 501: 200 + 2 × 90.2 = 380.4
    ∷ figure (peak_volume 2000 3102) 3804
    -- p, half upward: Do 10.1 over 200.0 is 50.5, so 51; 200 + 1.3 × 0.1 = 200.13
    ∷ figure (peak_percent 2000 2201) 51
    ∷ figure (peak_volume 2000 2201) 2001
    -- p of a DO whose 5 percent are no whole tenths: DO 0.3, peak 0.4, Do 0.085; 0.085 / 0.3 = 283.3
    -- thousandths; 0.3 + 1.5 × 0.07 = 0.405
    ∷ figure (peak_percent 3 4) 283
    ∷ figure (peak_volume 3 4) 4
    -- a tenth, half upward: Do 40.1, p 200.5, so 201; 200 + 1.5 × 30.1 = 245.15; and 0.1 × z 1.5 = 0.15
    ∷ figure (peak_volume 2000 2501) 2452
    ∷ figure (volume (peak_month 1 1 0 0 15 0) 0) 2
    -- the peak below DO: DO is paid
    ∷ figure (peak_volume 2000 5) 2000
    -- DO is 0: with a peak p is 501 and n 2, 2 × 3.7 = 7.4; without one p and n are 0
    ∷ figure (peak_percent 0 37) 501
    ∷ figure (band (peak_month 0 37 0 0 10 0) 0) 20
    ∷ figure (peak_volume 0 37) 74
    ∷ figure (peak_percent 0 0) 0
    ∷ figure (band (peak_month 0 0 0 0 10 0) 0) 0
    ∷ figure (peak_volume 0 0) 0
    -- mining days: 1 + 100 / 30 = 13 / 3. 100.0 × 13 / 3 × 13 / 3 = 1877.78; rounded after each factor 433.3
    -- and 1877.6
    ∷ figure (volume (peak_month 1000 1000 1 1 10 0) 0) 18778
    -- T'' 1, T''' 2, z 1.1: 100.0 × 13 / 3 × 23 / 3 × 1.1 = 3654.44; rounded after each factor 433.3, 3322.0,
    -- 3654.2
    ∷ figure (volume (peak_month 1000 1000 1 2 11 0) 0) 36544
    -- the bracket is not rounded first: 200.26 × 13 / 3 = 867.79; from 200.3 it would be 867.97, so 868.0
    ∷ figure (volume (peak_month 2000 2202 1 0 10 0) 0) 8678
    -- only T''', and z 10.0
    ∷ figure (volume (peak_month 30 30 0 3 10 0) 0) 330
    ∷ figure (volume (peak_month 30 30 0 0 100 0) 0) 300
    -- charge, half upward: 0.1 × 5 tiyn = 0.5
    ∷ figure (charge (peak_month 1 1 0 0 10 5) 0) 1
    ∷ figure (charge (peak_month 2000 2500 0 0 10 300) 0) 71700
    ∷ []

-- Credits and totals
-- -----------------------------------------------------------------------------------------------------------------

-- Two consumers; one producer of k3 0.5 with two rows to consumer 1, one to consumer 0 and a support row.
unfoldable pub credit_month : Month
credit_month =
    month 30 1 0
    (producer 100000 0 0 0 0 0 (500000 ∷ []) (every 0) (every 0) (every 0) ∷ [])
    (row 0 1 601 105 ∷ row 0 255 5000 200 ∷ row 0 1 201 305 ∷ row 0 0 4000 400 ∷ [])
    (consumer 1000 1500 0 0 10 100 ∷ consumer 1000 1502 0 0 10 100 ∷ [])

unfoldable pub credit_figures : List Figure
credit_figures =
    -- actual volumes 30.05 rounded 30.1, 250.0, 10.05 rounded 10.1, 200.0; the support row credits nobody
    figure (credit credit_month 0) 2000
    ∷ figure (credit credit_month 1) 402
    -- the first credit is above the peak: counted peak 0, DO is paid; the second leaves 150.2 - 40.2 = 110.0,
    -- so Do 5.0 and p 50
    ∷ figure (counted_peak credit_month 0) 0
    ∷ figure (percent credit_month 1) 50
    -- paid, each payment rounded: 30.1 × 105 = 3,160.5, so 3,161; 250 × 200 = 50,000; 10.1 × 305 = 3,080.5,
    -- so 3,081; 200 × 400 = 80,000
    ∷ figure (total_paid credit_month) 136242
    -- charged, to two consumers without a credit: 100.1 × 105 = 10,510.5, so 10,511; 200.1 × 305 = 61,030.5,
    -- so 61,031
    ∷ figure (total_charged (month 30 1 0 [] [] (consumer 1001 0 0 0 10 105 ∷ consumer 2001 0 0 0 10 305 ∷ []))) 71542
    ∷ []

unfoldable pub slips : List Figure
slips =
    control_hour_figures ++ k1_figures ++ hour_figures ++ row_figures ++ consumer_figures ++ credit_figures

-- All at once, by computation: no figure is wrong.
pub no_slip : wrong slips ≡ []
unfolding settlement use_month control_hour_figures outside_month no_support_month k1_figures hours_month power_month hour_figures cut_month sold_month order_month row_month row_figures peak_month consumer_figures credit_month credit_figures slips
no_slip = refl

-- The cut of a month's first producer as it is told, row by row: 85.0 from its own rows of 60.0, 40.0 and
-- 20.0.
abbrev told_cut : Month → List ℕ
told_cut m = cut_in_order (excess m 0) (own_rows m 0 (λ j. (m.row j).volume) m.header.rows)

pub told_cut_in_order : told_cut (cut_month 350 0 0) ≡ 0 ∷ 150 ∷ 200 ∷ []
unfolding settlement cut_month cut_in_order own_rows
told_cut_in_order = refl
