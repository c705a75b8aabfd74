-- Consumers under the text of 2015, figures of our own, worked out by hand from request 4: each edge from
-- both sides, by the percent and by its rounding, the zero rules, the halves, what the text does not know,
-- the room, and a result byte by byte. Contract volumes and peaks are in tenths of a megawatt, the excess in
-- hundredths of a percent, factors in tenths.
use Rattle.std.specs.Prelude.{ℕ, List, [], ◌∷◌, ◌++◌, replicate, ◌≡◌, refl}
use Rattle.rules.specs.Month.{Month}
use Rattle.rules.specs.Outcome.{refused, written}
use Rattle.rules.specs.Text2015.{excess_of, factor_for, volume_for, factor_2015, volume_2015, charge_2015}
use Rattle.rules.specs.Result2015.{Figures2015, record_2015_at, read_2015}
use Rattle.rules.specs.Outcome2015.{refusal_2015, outcome_2015, buffer_after_2015}
use Rattle.rules.specs.Samples.{producer, row, consumer, month, every, Figure, figure, wrong}
use Rattle.rules.specs.Open.{settlement, layout, text_2015}

unfoldable pub excess_figures : List Figure
excess_figures =
    -- 1,050.0 over 1,000.0 is 5.00 percent; 0.1 more is 5.01
    figure (excess_of 10000 10500) 500
    ∷ figure (excess_of 10000 10501) 501
    -- 1,251 / 25,000 = 5.004 percent; 1,001 / 20,000 = 5.005 percent, a half, upward; 999 / 20,000 = 4.995
    -- percent, which is 5.00 too
    ∷ figure (excess_of 25000 26251) 500
    ∷ figure (excess_of 20000 21001) 501
    ∷ figure (excess_of 20000 20999) 500
    -- 0.1 over 0.3 is 33.333 percent, 0.2 over 0.3 is 66.667
    ∷ figure (excess_of 3 4) 3333
    ∷ figure (excess_of 3 5) 6667
    -- a peak at the contract volume, below it, and 0: no excess
    ∷ figure (excess_of 1000 1000) 0
    ∷ figure (excess_of 1000 999) 0
    ∷ figure (excess_of 1000 0) 0
    -- a contract of 0: without a peak nothing, with a peak of 0.1 or of 10,000.0 above 20 percent
    ∷ figure (excess_of 0 0) 0
    ∷ figure (excess_of 0 1) 2001
    ∷ figure (excess_of 0 100000) 2001
    -- the largest: 9,999.9 over 0.1 is 9,999,900.00 percent
    ∷ figure (excess_of 1 100000) 999990000
    ∷ []

unfoldable pub factor_figures : List Figure
factor_figures =
    -- 5.00 and 5.01 percent, 10.00 and 10.01, 20.00 and 20.01, of 1,000.0
    figure (factor_for 10000 10500) 10
    ∷ figure (factor_for 10000 10501) 11
    ∷ figure (factor_for 10000 11000) 11
    ∷ figure (factor_for 10000 11001) 12
    ∷ figure (factor_for 10000 12000) 12
    ∷ figure (factor_for 10000 12001) 15
    -- by the rounding of the percent: 5.004 (1,251 / 25,000) and 5.005 (1,001 / 20,000); 10.004 and 10.005;
    -- 20.004 and 20.005
    ∷ figure (factor_for 25000 26251) 10
    ∷ figure (factor_for 20000 21001) 11
    ∷ figure (factor_for 25000 27501) 11
    ∷ figure (factor_for 20000 22001) 12
    ∷ figure (factor_for 25000 30001) 12
    ∷ figure (factor_for 20000 24001) 15
    -- no excess; 110.0 over 100.0 is 10.00 percent (over 1.05 × 100.0 it would be 5.00)
    ∷ figure (factor_for 1000 1000) 10
    ∷ figure (factor_for 1000 10) 10
    ∷ figure (factor_for 1000 1100) 11
    -- a contract of 0, with a peak of 0 and of 0.1; the largest excess
    ∷ figure (factor_for 0 0) 10
    ∷ figure (factor_for 0 1) 15
    ∷ figure (factor_for 1 100000) 15
    ∷ []

unfoldable pub volume_figures : List Figure
volume_figures =
    -- 100.0 with each factor: 1.0, 1.1, 1.2, 1.5
    figure (volume_for 1000 1050) 1000
    ∷ figure (volume_for 1000 1051) 1100
    ∷ figure (volume_for 1000 1101) 1200
    ∷ figure (volume_for 1000 1201) 1500
    -- the peak below the contract volume: the contract volume, not the peak
    ∷ figure (volume_for 1000 5) 1000
    -- a half upward: 1.5 and a peak of 1.6, 6.67 percent, is 1.5 × 1.1 = 1.65; 0.1 and a peak of 0.2, 100
    -- percent, is 0.1 × 1.5 = 0.15
    ∷ figure (volume_for 15 16) 17
    ∷ figure (volume_for 1 2) 2
    -- nearest: 1.4 and 1.5, 7.14 percent, is 1.54; 1.6 and 1.7, 6.25 percent, is 1.76
    ∷ figure (volume_for 14 15) 15
    ∷ figure (volume_for 16 17) 18
    -- a contract of 0: 0 × 1.0 and 0 × 1.5
    ∷ figure (volume_for 0 0) 0
    ∷ figure (volume_for 0 1) 0
    -- at the ceiling of a peak, 10,000.0: over 10,000.0 no excess; over 8,333.3, 16,667 / 83,333 = 20.0005
    -- percent, × 1.2 = 9,999.96; over 8,332.9, 16,671 / 83,329 = 20.0062 percent and so 20.01, × 1.5 =
    -- 12,499.35: no volume is larger
    ∷ figure (volume_for 100000 100000) 100000
    ∷ figure (volume_for 83333 100000) 100000
    ∷ figure (volume_for 83329 100000) 124994
    ∷ []

-- Three consumers of a month with one producer. The second has a credit of 30.0 from a bilateral row; the
-- third has mining days and z.
unfoldable pub old_month : Month
old_month =
    month 30 1 0
    (producer 100000 0 0 0 0 0 [] (every 0) (every 0) (every 0) ∷ [])
    (row 0 1 300 100 ∷ [])
    (consumer 1000 1060 0 0 10 105 ∷ consumer 1000 1150 0 0 10 200 ∷ consumer 15 16 3 4 20 5 ∷ [])

unfoldable pub charge_figures : List Figure
charge_figures =
    -- 6.00 percent: 1.1, 110.0, and 110.0 × 105 tiyn = 11,550
    figure (factor_2015 old_month 0) 11
    ∷ figure (volume_2015 old_month 0) 1100
    ∷ figure (charge_2015 old_month 0) 11550
    -- 15.00 percent whatever the credit (115.0 - 30.0 would be no excess): 1.2, 120.0, and 120.0 × 200 =
    -- 24,000
    ∷ figure (factor_2015 old_month 1) 12
    ∷ figure (volume_2015 old_month 1) 1200
    ∷ figure (charge_2015 old_month 1) 24000
    -- 6.67 percent whatever mining days and z are: 1.1, 1.65 and so 1.7; 1.7 × 5 = 8.5, a half, upward (of
    -- 1.65 it would be 8.25)
    ∷ figure (factor_2015 old_month 2) 11
    ∷ figure (volume_2015 old_month 2) 17
    ∷ figure (charge_2015 old_month 2) 9
    ∷ []

-- By computation: no figure is wrong.
pub text_2015_cases : wrong (excess_figures ++ factor_figures ++ volume_figures ++ charge_figures) ≡ []
unfolding settlement text_2015 excess_figures factor_figures volume_figures old_month charge_figures
text_2015_cases = refl

-- A sheet of 28 days from a Monday on, with no producer, no row and two consumers, 14 + 2 × 15 = 44 bytes:
-- its length field, and the z of the second. Contract volumes 100.0 (1,000 = 3 × 256 + 232) and 0.3, peaks
-- 106.0 (1,060 = 4 × 256 + 36) and 0.4, prices 5 and 100,000 tiyn (100,000 = 65,536 + 134 × 256 + 160).
abbrev two_consumers : ℕ → ℕ → List ℕ
two_consumers length z =
    (0 ∷ 0 ∷ 0 ∷ length ∷ 1 ∷ 28 ∷ 1 ∷ 0 ∷ 0 ∷ 0 ∷ 0 ∷ 0 ∷ 0 ∷ 2 ∷ [])
    ++ (0 ∷ 0 ∷ 3 ∷ 232 ∷ 0 ∷ 0 ∷ 4 ∷ 36 ∷ 0 ∷ 0 ∷ 10 ∷ 0 ∷ 0 ∷ 0 ∷ 5 ∷ [])
    ++ (0 ∷ 0 ∷ 0 ∷ 3 ∷ 0 ∷ 0 ∷ 0 ∷ 4 ∷ 0 ∷ 0 ∷ z ∷ 0 ∷ 1 ∷ 134 ∷ 160 ∷ [])

-- Its result, 4 + 2 × 17 = 38 bytes. The first: 6.00 percent, 1.1, 110.0 (1,100 = 4 × 256 + 76) and 550 tiyn
-- (2 × 256 + 38). The second: 33.33 percent, 1.5, 0.45 and so 0.5, and 50,000 tiyn (195 × 256 + 80). The
-- settlement's own result would be 21 + 2 × 25 = 71 bytes.
abbrev two_results : List ℕ
two_results =
    (0 ∷ 0 ∷ 0 ∷ 38 ∷ [])
    ++ (11 ∷ 0 ∷ 0 ∷ 0 ∷ 0 ∷ 0 ∷ 0 ∷ 4 ∷ 76 ∷ 0 ∷ 0 ∷ 0 ∷ 0 ∷ 0 ∷ 0 ∷ 2 ∷ 38 ∷ [])
    ++ (15 ∷ 0 ∷ 0 ∷ 0 ∷ 0 ∷ 0 ∷ 0 ∷ 0 ∷ 5 ∷ 0 ∷ 0 ∷ 0 ∷ 0 ∷ 0 ∷ 0 ∷ 195 ∷ 80 ∷ [])

-- A buffer of 40 bytes, and one of 38: the result from its beginning, and past it what was there.
pub written_2015 : buffer_after_2015 (two_consumers 44 10) (replicate 40 7) ≡ two_results ++ (7 ∷ 7 ∷ [])
unfolding settlement layout text_2015
written_2015 = refl

pub outcome_2015_written : outcome_2015 (two_consumers 44 10) 38 ≡ written 38
unfolding settlement layout text_2015
outcome_2015_written = refl

-- A buffer one byte too short keeps every byte.
pub short_2015 : outcome_2015 (two_consumers 44 10) 37 ≡ refused 7
unfolding settlement layout text_2015
short_2015 = refl

pub kept_2015 : buffer_after_2015 (two_consumers 44 10) (replicate 37 7) ≡ replicate 37 7
unfolding settlement layout text_2015
kept_2015 = refl

-- The figures as they are read back.
abbrev read_back : ℕ → Figures2015
read_back c = read_2015 two_results c

unfoldable pub answer_figures : List Figure
answer_figures =
    figure (read_back 0).factor 11
    ∷ figure (read_back 0).volume 1100
    ∷ figure (read_back 0).charge 550
    ∷ figure (read_back 1).factor 15
    ∷ figure (read_back 1).volume 5
    ∷ figure (read_back 1).charge 50000
    -- a third record would begin behind them, at 4 + 2 × 17
    ∷ figure (record_2015_at 2) 38
    -- the order of the numbers: a wrong length field comes before 7, 7 before a z of 0.9
    ∷ figure (refusal_2015 (two_consumers 45 9) 37) 2
    ∷ figure (refusal_2015 (two_consumers 44 9) 37) 7
    ∷ figure (refusal_2015 (two_consumers 44 9) 38) 12
    ∷ figure (refusal_2015 (two_consumers 44 10) 70) 0
    ∷ []

pub answer_2015_cases : wrong answer_figures ≡ []
unfolding settlement layout text_2015 answer_figures
answer_2015_cases = refl
