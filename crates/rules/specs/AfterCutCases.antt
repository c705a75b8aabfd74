-- T and S after the cut, and the one fraction of a single row: figures of our own. Products are in millionths
-- of a megawatt. [Requests, 8]
use Rattle.std.specs.Prelude.{ℕ, List, [], ◌∷◌, ◌++◌, ◌≡◌, refl}
use Rattle.rules.specs.Month.{Row, Month}
use Rattle.rules.specs.Cut.{after_cut, row_count}
use Rattle.rules.specs.Coefficients.{support_after, capacity_after}
use Rattle.rules.specs.Rows.{begun, actual, payment}
use Rattle.rules.specs.Consumers.{credit}
use Rattle.rules.specs.Samples.{
  producer,
  row,
  consumer,
  month,
  every,
  first_hours,
  k1,
  k4,
  Figure,
  figure,
  wrong,
}
use Rattle.rules.specs.CheckedMonths.{producer_month}
use Rattle.rules.specs.Open.{settlement}

-- A month of one day, a Monday, with one producer and these rows: attested and deductible capacity; working
-- and possible power and outside use, each alike in every hour.
unfoldable pub day_month : ℕ → ℕ → ℕ → ℕ → ℕ → List (ℕ → Row) → Month
day_month attested deductible working possible outside rows =
    month 1 1 0
    (producer attested deductible 0 0 0 0 [] (every working) (every possible) (every outside) ∷ [])
    rows
    (consumer 0 0 0 0 10 0 ∷ [])

-- Rows at 1.00 tenge to the single buyer and to the one consumer.
abbrev support_row : ℕ → ℕ → Row
support_row volume = row 0 255 volume 100

abbrev bilateral_row : ℕ → ℕ → Row
bilateral_row volume = row 0 0 volume 100

-- Outside use of 0.1 over a deductible capacity of 0: D 0.1, n × D 0.2. k4 is 5 / 6. Nothing is cut.
abbrev used_month : List (ℕ → Row) → Month
used_month rows = day_month 100000 0 5 6 1 rows

-- What a row of the producer begins with at a volume after the cut.
abbrev begins : Month → ℕ → ℕ
begins m volume = begun m 0 volume

unfoldable pub single_row_figures : List Figure
single_row_figures =
    -- document 01's producer with attested 105.0: the row is cut to 95.0, T is 95.0 and S 105.0; 95 × 99 /
    -- 105 = 89.571429, and × 0.9 = 80.614286. With attested 110.0, 100 × 99 / 110 = 90, and × 0.9 = 81.0
    figure (support_after (producer_month 1050 100) 0) 950
    ∷ figure (capacity_after (producer_month 1050 100) 0) 1050
    ∷ figure (begins (producer_month 1050 100) 950) 89571429
    ∷ figure (actual (producer_month 1050 100) 0) 806
    ∷ figure (begins (producer_month 1100 100) 1000) 90000000
    -- a support row of 2.3: (2.3 - 0.2) × 5 / 6 = 1.75, half upward 1.8. With k1 rounded first, 2.3 ×
    -- 0.913043 × 5 / 6 = 1.749999; with k4, 2.1 × 0.833333 = 1.749999; with both, 1.749998
    ∷ figure (begins (used_month (support_row 23 ∷ [])) 23) 1750000
    ∷ figure (actual (used_month (support_row 23 ∷ [])) 0) 18
    ∷ figure (payment (used_month (support_row 23 ∷ [])) 0) 180
    -- a bilateral row has T 0: n × D of 0.2 leaves nothing of it; without n × D 4.9 × 9 / 14 = 3.15, half
    -- upward, and that is the credit. With k4 rounded first, 4.9 × 0.642857 = 3.149999
    ∷ figure (k1 (used_month (bilateral_row 23 ∷ []))) 0
    ∷ figure (actual (used_month (bilateral_row 23 ∷ [])) 0) 0
    ∷ figure (actual (day_month 100000 0 9 14 0 (bilateral_row 49 ∷ [])) 0) 32
    ∷ figure (credit (day_month 100000 0 9 14 0 (bilateral_row 49 ∷ [])) 0) 32
    -- n × D at the volume and above it: 0.2 of 0.2 and of 0.1
    ∷ figure (actual (used_month (support_row 2 ∷ [])) 0) 0
    ∷ figure (actual (used_month (support_row 1 ∷ [])) 0) 0
    -- T after the cut: a row of 10.0 cut to 5.0, n × D 1.0 of outside use 0.5, and k4 1: 5 - 1 = 4. With T
    -- before the cut 5 × (1 - 1 / 10) = 4.5
    ∷ figure (actual (day_month 50 0 0 0 5 (support_row 100 ∷ [])) 0) 40
    -- n × D above the volume after the cut and not above that before it: 10.0 cut to 0.9
    ∷ figure (actual (day_month 9 0 0 0 5 (support_row 100 ∷ [])) 0) 0
    -- S after the cut: a row of 10.0 cut to 5.0, possible power 10.0, working 4.0: m is 5.0, 5 × 4 / 5 = 4.
    -- With S before the cut 5 × 4 / 10 = 2
    ∷ figure (k4 (day_month 50 0 40 100 0 (support_row 100 ∷ []))) 800000
    ∷ figure (actual (day_month 50 0 40 100 0 (support_row 100 ∷ [])) 0) 40
    -- a row cut to 0: deductible 10.0 is S, and k4 9 / 10
    ∷ figure (after_cut (day_month 100 100 90 110 0 (support_row 1000 ∷ [])) 0) 0
    ∷ figure (support_after (day_month 100 100 90 110 0 (support_row 1000 ∷ [])) 0) 0
    ∷ figure (capacity_after (day_month 100 100 90 110 0 (support_row 1000 ∷ [])) 0) 100
    ∷ figure (k4 (day_month 100 100 90 110 0 (support_row 1000 ∷ []))) 900000
    ∷ figure (actual (day_month 100 100 90 110 0 (support_row 1000 ∷ [])) 0) 0
    -- the sum of m is 0 after the cut: S is 0 and k4 1
    ∷ figure (k4 (day_month 0 0 90 110 0 (support_row 1000 ∷ []))) 1000000
    ∷ figure (actual (day_month 0 0 90 110 0 (support_row 1000 ∷ [])) 0) 0
    -- the sum of m is 0, since possible power is: k4 1, and the row stays
    ∷ figure (actual (day_month 100000 0 90 0 0 (support_row 1000 ∷ [])) 0) 1000
    -- half a millionth, upward: 0.1 × 1 / 64 = 0.0015625; below half, downward: 0.1 × 1 / 3 = 0.0333333..
    ∷ figure (begins (day_month 100000 100 1 64 0 (support_row 1 ∷ [])) 1) 1563
    ∷ figure (begins (day_month 100000 100 1 3 0 (support_row 1 ∷ [])) 1) 33333
    -- two rows begin with the volume; of a single one, with n × D of 0.2, (0.3 - 0.2) × 1 / 2 = 0.05
    ∷ figure (begins (day_month 100000 0 1 64 1 (support_row 3 ∷ bilateral_row 100 ∷ [])) 3) 300000
    ∷ figure (begins (day_month 100000 0 1 2 1 (support_row 3 ∷ [])) 3) 50000
    ∷ []

-- A single support row of 0.1, with hours of 24 without an upward bid and without a plan, given coefficients
-- and working power. Possible power and deductible capacity are 2,500.0, and so is m.
unfoldable pub short_month : ℕ → ℕ → List ℕ → (ℕ → ℕ) → Month
short_month up plan given working =
    month 1 1 0
    (producer 100000 25000 0 up 0 plan given working (every 25000) (every 0) ∷ [])
    (support_row 1 ∷ [])
    []

unfoldable pub order_figures : List Figure
order_figures =
    -- the fraction is rounded before k2: working power 0.9 less in one hour of 24 makes k4 1 - 0.9 / 60,000 =
    -- 0.999985. 0.1 × 0.999985 = 0.0999985, rounded 0.099999; × 0.5 = 0.0499995, rounded 0.050000; so 0.1.
    -- With k4 after k2: 0.05 × 0.999985 = 0.04999925, so 0
    figure (actual (short_month 12 0 [] (first_hours 1 24991 (every 25000))) 0) 1
    -- k2 before k3: 0.05 × 0.999985, so 0; k3 before k5: 0.099999 × 0.5, so 0.1
    ∷ figure (actual (short_month 12 0 (999985 ∷ []) (every 25000)) 0) 0
    ∷ figure (actual (short_month 0 12 (999985 ∷ []) (every 25000)) 0) 1
    ∷ []

-- Two support rows of 10.0 and 2.3, of which attested 2.3 cuts the first whole.
unfoldable pub gone_month : Month
gone_month = day_month 23 0 5 6 1 (support_row 100 ∷ support_row 23 ∷ [])

unfoldable pub more_row_figures : List Figure
more_row_figures =
    -- two rows of 4.9, k1 and k4 rounded: 4.9 × 0.642857 = 3.149999, so 3.1. As one fraction 3.15, so 3.2
    figure (actual (day_month 100000 0 9 14 0 (support_row 49 ∷ bilateral_row 49 ∷ [])) 0) 31
    ∷ figure (actual (day_month 100000 0 9 14 0 (support_row 49 ∷ bilateral_row 49 ∷ [])) 1) 31
    -- a row of volume 0 is a row: 2.3 × 0.913043 × 0.833333 = 1.749998, so 1.7
    ∷ figure (row_count (used_month (support_row 0 ∷ support_row 23 ∷ [])) 0) 2
    ∷ figure (actual (used_month (support_row 0 ∷ support_row 23 ∷ [])) 1) 17
    ∷ figure (actual (used_month (support_row 23 ∷ bilateral_row 0 ∷ [])) 0) 17
    -- and so is one that is cut whole
    ∷ figure (after_cut gone_month 0) 0
    ∷ figure (support_after gone_month 0) 23
    ∷ figure (actual gone_month 0) 0
    ∷ figure (actual gone_month 1) 17
    -- another producer's row is not counted
    ∷ figure
    (actual
    (month 1 1 0
    (producer 100000 0 0 0 0 0 [] (every 5) (every 6) (every 1) ∷ producer 0 0 0 0 0 0 [] (every 0) (every 0) (every 0) ∷ [])
    (support_row 23 ∷ row 1 255 0 0 ∷ [])
    [])
    0)
    18
    -- all is cut of two rows, and S is 0: k4 1
    ∷ figure (k4 (day_month 0 0 90 110 0 (support_row 500 ∷ bilateral_row 500 ∷ []))) 1000000
    -- all support is cut, and T is 0: n × D of 0.2 leaves nothing of the bilateral row. With T before the cut
    -- k1 would be 0.98
    ∷ figure (k1 (day_month 100 0 0 0 1 (support_row 100 ∷ bilateral_row 100 ∷ []))) 0
    ∷ figure (actual (day_month 100 0 0 0 1 (support_row 100 ∷ bilateral_row 100 ∷ [])) 1) 0
    ∷ []

pub after_the_cut : wrong (single_row_figures ++ order_figures ++ more_row_figures) ≡ []
unfolding settlement producer_month day_month single_row_figures short_month order_figures gone_month more_row_figures
after_the_cut = refl
