-- The lines that document 01 marks under Checked months, as one list of figures.
use Rattle.std.specs.Prelude.{ℕ, List, [], ◌∷◌, ◌≡◌, refl}
use Rattle.rules.specs.Month.{Month}
use Rattle.rules.specs.Cut.{after_cut}
use Rattle.rules.specs.Rows.{actual}
use Rattle.rules.specs.Consumers.{volume}
use Rattle.rules.specs.Samples.{producer, row, consumer, month, every, k1, Figure, figure, wrong}
use Rattle.rules.specs.Open.{settlement}

-- One consumer of given DO and peak in a month of 30 days, without credit or mining days, z 1.0.
unfoldable pub consumer_month : ℕ → ℕ → Month
consumer_month contract peak = month 30 1 0 [] [] (consumer contract peak 0 0 10 0 ∷ [])

-- One producer of given attested capacity and outside use in a month of 30 days, with a support row of 100.0
-- MW and deductible 10.0; possible power is 110.0 and working power 99.0 throughout; upward bids lack in 72
-- hours, downward bids in 36; nothing else is missing.
unfoldable pub producer_month : ℕ → ℕ → Month
producer_month attested outside =
    month 30 1 0
    (producer attested 100 0 72 36 0 [] (every 990) (every 1100) (every outside) ∷ [])
    (row 0 255 1000 0 ∷ [])
    []

abbrev consumer_volume : ℕ → ℕ → ℕ
consumer_volume contract peak = volume (consumer_month contract peak) 0

unfoldable pub checked : List Figure
checked =
    figure (consumer_volume 1000 1050) 1000
    ∷ figure (consumer_volume 1000 1100) 1000
    ∷ figure (consumer_volume 1000 1101) 1001
    ∷ figure (consumer_volume 1000 1250) 1195
    ∷ figure (consumer_volume 1000 1251) 1227
    ∷ figure (consumer_volume 1000 1260) 1240
    ∷ figure (consumer_volume 1000 1451) 1597
    ∷ figure (consumer_volume 1000 1551) 1902
    ∷ figure (consumer_volume 0 10) 20
    ∷ figure (actual (producer_month 1100 100) 0) 810
    ∷ figure (after_cut (producer_month 1050 100) 0) 950
    ∷ figure (actual (producer_month 1050 100) 0) 806
    ∷ figure (k1 (producer_month 1100 120)) 974000
    ∷ figure (k1 (producer_month 1100 121)) 968500
    ∷ []

-- All at once, by computation: no figure is wrong.
pub checked_months : wrong checked ≡ []
unfolding settlement consumer_month producer_month checked
checked_months = refl
