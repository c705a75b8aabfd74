-- The theorems, for the auditor: each by name, with its statement. The proofs are in the other files. Assumes
-- nothing.
use mathlib.Core.Path.{◌≡◌}
use mathlib.Core.List.{List, ◌++◌}
use Prim.Native.Nat.{ℕ, ◌+◌, ◌≤◌, ◌<◌}
use native.Mathlib.Omega.{arith}
use lib.ListN.{length, drop}
use Rattle.rules.specs.declared.Consumer.{Consumer}
use Rattle.rules.specs.Limits.{SheetLimits}
use Rattle.rules.specs.Fields.{over}
use Rattle.rules.specs.Sheet.{header_of, layout_of, month_of, hours_width, hours_at}
use Rattle.rules.specs.Cut.{excess, after_cut, cut_in_order, own_rows}
use Rattle.rules.specs.Consumers.{volume_of}
use Rattle.rules.specs.Result.{
  row_figures,
  consumer_figures,
  total_figures,
  row_fields,
  consumer_fields,
  total_fields,
  result_length,
  result_of,
  read_row,
  read_consumer,
  read_totals,
}
use Rattle.rules.specs.Refusals.{form_tests, tests, first_of, refusal}
use Rattle.rules.specs.Outcome.{refused, written, Accepted, outcome, buffer_after, hours_stretch}
use Rattle.laws.proofs.Fields.{Fit}
use Rattle.laws.proofs.Refusals as Refusals
use Rattle.laws.proofs.Answers as Answers
use Rattle.laws.proofs.Cut as Cut
use Rattle.theorems.specs.Demand1.{First}
use Rattle.theorems.specs.Demand3.{
  MoreRowsKeepAttested,
  AtMostOneRow,
  AllKeepAttested,
  WorseSheet,
  NoBetter,
  OnlyCut,
}
use Rattle.theorems.specs.TwoRows.{TwoRowFigures, NeverRises}
use Rattle.theorems.proofs.ReadBack as ReadBack
use Rattle.theorems.proofs.Demand1 as Demand1
use Rattle.theorems.proofs.Demand3 as Demand3
use Rattle.theorems.proofs.Consumers as Consumers
use Rattle.theorems.proofs.TwoRows as TwoRows

-- Demand 1
-- --------------------------------------------------------------------------------------------------------------------------

-- An accepted sheet keeps to every limit, each by name; and a sheet that keeps to every limit is accepted.
pub accepted_limits : (s : List ℕ) (room : ℕ) → Accepted s room → SheetLimits s room
accepted_limits = Refusals.limits

pub limits_accepted : (s : List ℕ) (room : ℕ) → SheetLimits s room → Accepted s room
limits_accepted = Refusals.accepted

-- A refusal's number is that of the first test that applies: it applies, and none that is tried before it
-- does.
pub refused_first : (s : List ℕ) (room n : ℕ) → refusal s room ≡ n → (n ≡ 0 → ⊥) → First (tests s room) n
refused_first = Demand1.refused_first

-- A refusal is answered with its number, and the buffer keeps every byte.
module _ (s out : List ℕ) where
  pub refused_outcome : (refusal s (length out) ≡ 0 → ⊥)
      → outcome s (length out) ≡ refused (refusal s (length out))
  unfolding outcome
  refused_outcome n = Answers.says_refused (refusal s (length out)) (result_length (header_of s)) n

  pub refused_keeps : (refusal s (length out) ≡ 0 → ⊥) → buffer_after s out ≡ out
  unfolding buffer_after
  refused_keeps n = Answers.kept (refusal s (length out)) (over (result_of (month_of s)) out) out n

  -- Demand 2, of the definitions
  -- -------------------------------------------------------------------------------------------------

  -- An accepted sheet is answered with the count of bytes of its result, which stand at the buffer's
  -- beginning; those past them are kept.
  pub accepted_outcome : Accepted s (length out)
      → outcome s (length out) ≡ written (length (result_of (month_of s)))
  unfolding outcome
  accepted_outcome a = rw (ReadBack.result_has_length (month_of s)) (Answers.says_written (refusal s (length out)) (result_length (header_of s)) a)

  pub accepted_result : Accepted s (length out)
      → buffer_after s out ≡ result_of (month_of s) ++ drop (length (result_of (month_of s))) out
  unfolding buffer_after over
  accepted_result a = Answers.is_changed (refusal s (length out)) (over (result_of (month_of s)) out) out a

  -- The result has the stated length.
  pub result_has_length : length (result_of (month_of s)) ≡ result_length (header_of s)
  result_has_length = ReadBack.result_has_length (month_of s)

  -- Every figure fits its field, and the bytes give it back: the result loses nothing.
  module _ (a : Accepted s (length out)) where
    pub row_fits : (j : ℕ) → j < (header_of s).rows → Fit (row_fields (row_figures (month_of s) j))
    row_fits = ReadBack.row_fits (month_of s) (Refusals.limits s (length out) a).month

    pub consumer_fits : (c : ℕ) → c < (header_of s).consumers
        → Fit (consumer_fields (consumer_figures (month_of s) c))
    consumer_fits = ReadBack.consumer_fits (month_of s) (Refusals.limits s (length out) a).month

    pub totals_fit : Fit (total_fields (total_figures (month_of s)))
    totals_fit = ReadBack.totals_fit (month_of s) (Refusals.limits s (length out) a).month

    pub row_read : (j : ℕ) → j < (header_of s).rows
        → read_row (buffer_after s out) j ≡ row_figures (month_of s) j
    row_read = ReadBack.row_read (month_of s) (Refusals.limits s (length out) a).month (buffer_after s out) (Demand3.begins s out a)

    pub consumer_read : (c : ℕ) → c < (header_of s).consumers
        → read_consumer (header_of s) (buffer_after s out) c ≡ consumer_figures (month_of s) c
    consumer_read = ReadBack.consumer_read (month_of s) (Refusals.limits s (length out) a).month (buffer_after s out) (Demand3.begins s out a)

    pub totals_read : read_totals (header_of s) (buffer_after s out) ≡ total_figures (month_of s)
    totals_read = ReadBack.totals_read (month_of s) (Refusals.limits s (length out) a).month (buffer_after s out) (Demand3.begins s out a)

-- The hours of a producer below P, of a sheet that numbers 1 to 6 let pass: a stretch of 288 × days bytes
-- inside the sheet.
pub stretch_inside : (s : List ℕ) (p : ℕ) → first_of (form_tests s) ≡ 0 → p < (header_of s).producers
    → (hours_stretch s p ≡ record { place = hours_at (layout_of s) p; bytes = hours_width (header_of s) })
    × (hours_at (layout_of s) p + hours_width (header_of s) ≤ length s)
stretch_inside s p e l = (Refusals.stretch_there s p e l, Refusals.stretch_ends s p e l)

-- Demand 3
-- --------------------------------------------------------------------------------------------------------------------------

-- Of two accepted sheets with the same header in the relation of demand 3, where a producer with more than
-- one row keeps its attested capacity and any other may have less, the second result is no better.
module _ (s s' out out' : List ℕ) (a : Accepted s (length out)) (a' : Accepted s' (length out')) (w : WorseSheet s s') where
  pub no_better : MoreRowsKeepAttested (month_of s) (month_of s')
      → NoBetter (header_of s) (buffer_after s out) (buffer_after s' out')
  no_better = Demand3.no_better s s' out out' a a' w

  -- So it is where each producer has at most one row, and where all keep their attested capacity. [Requests,
  -- 8]
  pub no_better_one_row : AtMostOneRow (month_of s)
      → NoBetter (header_of s) (buffer_after s out) (buffer_after s' out')
  no_better_one_row one = no_better (λ p l more. absurd (omega (arith, one p l, more)))

  pub no_better_equal_attested : AllKeepAttested (month_of s) (month_of s')
      → NoBetter (header_of s) (buffer_after s out) (buffer_after s' out')
  no_better_equal_attested same = no_better (λ p l more. same p l)

-- Why a producer with more than one row must keep its attested capacity, so that nobody tries to prove more:
-- of one with two support rows of 50.0, attested capacity 100.0 gives the second row 40.0, and 50.0 gives it
-- 50.0. So it is not true of all worse months that no row rises.
pub two_row_figures : TwoRowFigures
two_row_figures = TwoRows.figures

pub two_rows_rise : NeverRises → ⊥
two_rows_rise = TwoRows.rises

-- In every accepted sheet's result each row's actual volume ≤ its volume after the cut ≤ the sheet's volume.
pub only_cut : (s out : List ℕ) → Accepted s (length out) → OnlyCut s (buffer_after s out)
only_cut = Demand3.only_cut

-- The exam's last part: no higher counted peak ever gives a lower volume.
pub exam : (days : ℕ) (c : Consumer) {x y : ℕ} → x ≤ y → volume_of days c x ≤ volume_of days c y
exam = Consumers.exam

-- The cut, in its closed form, is the one taken row by row: each of producer p's rows, in sheet order, gives
-- as much as it has until the excess is used up.
pub row_by_row : (s : List ℕ) (p n : ℕ)
    → own_rows (month_of s) p (after_cut (month_of s)) n
    ≡ cut_in_order (excess (month_of s) p) (own_rows (month_of s) p (λ j. ((month_of s).row j).volume) n)
row_by_row s p n = Cut.row_by_row (month_of s) p n
