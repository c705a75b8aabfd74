-- The example of document 01, Listing, as bytes: a sheet that holds a single consumer (DO 100.0, peak 126.0,
-- no mining days, z 1.0, at 1,000 tenge), and its result.
use Rattle.std.specs.Prelude.{ℕ, List, [], ◌∷◌, ◌++◌, replicate, ◌≡◌, refl}
use Rattle.rules.specs.Outcome.{refused, written, outcome, buffer_after}
use Rattle.rules.specs.Open.{settlement, layout}

-- Header: length 29, version 1, 30 days from a Monday, no holiday, P 0, R 0, C 1. Consumer: 1000, 1260, 0, 0,
-- 10, 100,000.
unfoldable pub example_sheet : List ℕ
example_sheet =
    (0 ∷ 0 ∷ 0 ∷ 29 ∷ 1 ∷ 30 ∷ 1 ∷ 0 ∷ 0 ∷ 0 ∷ 0 ∷ 0 ∷ 0 ∷ 1 ∷ [])
    ++ (0 ∷ 0 ∷ 3 ∷ 232 ∷ 0 ∷ 0 ∷ 4 ∷ 236 ∷ 0 ∷ 0 ∷ 10 ∷ 0 ∷ 1 ∷ 134 ∷ 160 ∷ [])

-- Length 46, version 1. Credit 0, p 210, n 15, actual volume 1240 (4 × 256 + 216), charge 12,400,000 (189 ×
-- 65,536 + 53 × 256 + 128). Total paid 0, total charged the same 12,400,000.
unfoldable pub example_result : List ℕ
example_result =
    (0 ∷ 0 ∷ 0 ∷ 46 ∷ 1 ∷ [])
    ++ (0 ∷ 0 ∷ 0 ∷ 0 ∷ 0 ∷ 0 ∷ 0 ∷ 210 ∷ 15 ∷ 0 ∷ 0 ∷ 0 ∷ 0 ∷ 0 ∷ 0 ∷ 4 ∷ 216 ∷ 0 ∷ 0 ∷ 0 ∷ 0 ∷ 0 ∷ 189 ∷ 53 ∷ 128 ∷ [])
    ++ (0 ∷ 0 ∷ 0 ∷ 0 ∷ 0 ∷ 0 ∷ 0 ∷ 0 ∷ 0 ∷ 0 ∷ 0 ∷ 0 ∷ 0 ∷ 189 ∷ 53 ∷ 128 ∷ [])

-- 46 bytes are written into a buffer of 46.
pub example_outcome : outcome example_sheet 46 ≡ written 46
unfolding settlement layout example_sheet
example_outcome = refl

-- A buffer of 51 bytes keeps the five past the result.
pub example_settled : buffer_after example_sheet (replicate 51 7) ≡ example_result ++ replicate 5 7
unfolding settlement layout example_sheet example_result
example_settled = refl

-- A buffer of 45 bytes is too short, and keeps all that it held.
pub example_short : outcome example_sheet 45 ≡ refused 7
unfolding settlement layout example_sheet
example_short = refl

pub example_kept : buffer_after example_sheet (replicate 45 7) ≡ replicate 45 7
unfolding settlement layout example_sheet
example_kept = refl
