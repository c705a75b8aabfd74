-- The cut: what a producer sold beyond its attested capacity is taken from its rows in sheet order.
use Rattle.std.specs.Prelude.{ℕ, zero, suc, ◌+◌, ◌-◌, min, Bool, not, cond, ◌&&◌, List, [], ◌∷◌, ◌++◌, eqb}
use Rattle.rules.specs.Range.{sum, when}
use Rattle.rules.specs.Month.{Month}

-- Row j is producer p's. [Units and the sheet, Rows]
unfoldable pub owns : Month → ℕ → ℕ → Bool
owns m p j = eqb (m.row j).producer p

-- A support row sells to the single buyer, 255. [Units and the sheet, Rows]
unfoldable pub support : Month → ℕ → Bool
support m j = eqb (m.row j).consumer 255

-- Any other row is a bilateral row. [Units and the sheet, Rows]
unfoldable pub bilateral : Month → ℕ → Bool
bilateral m j = not (support m j)

-- The rows' volumes as the sheet has them, by place. [Units and the sheet, Rows]
abbrev pub sold : Month → ℕ → ℕ
sold m j = (m.row j).volume

-- What row j adds to the volume of producer p's rows, where each row counts with a volume v: that which the
-- sheet has, or that after the cut. [Cut; Requests, 8]
unfoldable pub own_volume : Month → (ℕ → ℕ) → ℕ → ℕ → ℕ
own_volume m v p j = when (owns m p j) (v j)

-- What row j adds to the volume of producer p's support rows. [Cut; Requests, 8]
unfoldable pub own_support : Month → (ℕ → ℕ) → ℕ → ℕ → ℕ
own_support m v p j = when (owns m p j && support m j) (v j)

-- What row j adds to the volume of producer p's bilateral rows. [Cut; Requests, 8]
unfoldable pub own_bilateral : Month → (ℕ → ℕ) → ℕ → ℕ → ℕ
own_bilateral m v p j = when (owns m p j && bilateral m j) (v j)

-- T: the sum of producer p's support rows' volumes. [Cut; p. 2, 11); Requests, 8]
unfoldable pub support_volume : Month → (ℕ → ℕ) → ℕ → ℕ
support_volume m v p = sum (own_support m v p) m.header.rows

-- B: the sum of producer p's bilateral rows' volumes. [Cut; p. 90; Requests, 8]
unfoldable pub bilateral_volume : Month → (ℕ → ℕ) → ℕ → ℕ
bilateral_volume m v p = sum (own_bilateral m v p) m.header.rows

-- S = T + B + deductible. [Cut; p. 2, 11), p. 90; Requests, 8]
unfoldable pub summed_capacity : Month → (ℕ → ℕ) → ℕ → ℕ
summed_capacity m v p = support_volume m v p + bilateral_volume m v p + (m.producer p).deductible

-- The excess: S of the volumes that the sheet has, less own needs, less attested capacity, neither below 0.
-- [Cut; p. 35, 90]
unfoldable pub excess : Month → ℕ → ℕ
excess m p = summed_capacity m (sold m) p - (m.producer p).own_needs - (m.producer p).attested

-- What is left of producer p's excess when row j's turn comes: its rows before j have yielded all they could.
-- [Cut]
unfoldable pub left_to_cut : Month → ℕ → ℕ → ℕ
left_to_cut m p j = excess m p - sum (own_volume m (sold m) p) j

-- The volume of row j after the cut: what it has less what is left to cut, not below 0. [Cut]
unfoldable pub after_cut : Month → ℕ → ℕ
after_cut m j = (m.row j).volume - left_to_cut m (m.row j).producer j

-- How many of the sheet's rows are producer p's, whatever their volumes. [Requests, 8]
unfoldable pub row_count : Month → ℕ → ℕ
row_count m p = sum (λ j. when (owns m p j) 1) m.header.rows

-- Producer p has a single row in the sheet. [Requests, 8]
unfoldable pub single : Month → ℕ → Bool
single m p = eqb (row_count m p) 1

-- The same cut as it is told, row by row: each volume in its turn yields what it can, until nothing is left
-- to cut. [Cut] (row_by_row, in laws/Cut, shows that the volumes after the cut are these.)
unfoldable pub cut_in_order : ℕ → List ℕ → List ℕ
cut_in_order left [] = []
cut_in_order left (v ∷ vs) = (v - min v left) ∷ cut_in_order (left - min v left) vs

-- A figure of each of producer p's rows among the first n, in sheet order. [Cut]
unfoldable pub own_rows : Month → ℕ → (ℕ → ℕ) → ℕ → List ℕ
own_rows m p f zero = []
own_rows m p f (suc n) = own_rows m p f n ++ cond (owns m p n) (f n ∷ []) []
