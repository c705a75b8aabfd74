-- Why demand 3 asks that a producer with more than one row keeps its attested capacity: two months in which
-- less of it raises a row's volume. So that nobody tries to prove more. [Requests, 8]
use Rattle.std.specs.Prelude.{ℕ, ◌≤◌, ◌<◌, ◌≡◌, [], ◌∷◌}
use Rattle.rules.specs.Month.{Month}
use Rattle.rules.specs.Limits.{MonthLimits}
use Rattle.rules.specs.Cut.{after_cut}
use Rattle.rules.specs.Rows.{actual}
use Rattle.rules.specs.Samples.{producer, row, month, every, k4}
use Rattle.theorems.specs.Demand3.{Worse}

-- One producer of given attested capacity in a month of 30 days, with two support rows of 50.0, deductible
-- capacity 0 and own needs 0; working power is 80.0 and possible power 110.0 throughout; nothing is missing.
unfoldable pub two_rows : ℕ → Month
two_rows attested =
    month 30 1 0
    (producer attested 0 0 0 0 0 [] (every 800) (every 1100) (every 0) ∷ [])
    (row 0 255 500 100 ∷ row 0 255 500 100 ∷ [])
    []

-- Attested 100.0 cuts nothing: S is 100.0, k4 80 / 100, and the second row 50 × 0.8 = 40.0. Attested 50.0
-- cuts the first row whole: S is 50.0, k4 1, and the second row rises to 50.0.
pub record TwoRowFigures : Type 0 where
  pub k4_of_100 : k4 (two_rows 1000) ≡ 800000
  pub second_of_100 : actual (two_rows 1000) 1 ≡ 400
  pub first_cut : after_cut (two_rows 500) 0 ≡ 0
  pub k4_of_50 : k4 (two_rows 500) ≡ 1000000
  pub second_of_50 : actual (two_rows 500) 1 ≡ 500

-- What these months refute: of two months with one header that keep to their limits, the second worse, no
-- row's actual volume rises.
abbrev pub NeverRises : Type 0
NeverRises =
    (m m' : Month) → m'.header ≡ m.header → MonthLimits m → MonthLimits m' → Worse m m'
    → (j : ℕ) → j < m.header.rows → actual m' j ≤ actual m j
