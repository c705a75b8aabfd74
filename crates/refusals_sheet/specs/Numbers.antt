-- The numbers of a month under a layout: all, and those of the records with what the hours add.
use Rattle.std.specs.Prelude.{ℕ, Bool, cond, ◌&&◌, ◌||◌, List, ◌++◌, ltb, eqb, length}
use Rattle.rules.specs.declared.Layout.{Layout}
use Rattle.rules.specs.Range.{any}
use Rattle.rules.specs.Sheet.{month_under}
use Rattle.rules.specs.Result.{result_length}
use Rattle.rules.specs.Refusals.{header_tests, room_tests, figure_tests, first_of}
use Rattle.rules.specs.Outcome.{within}
use Rattle.sheet.specs.Whole.{stretch_in}
use Rattle.refusals_powers.specs.Powers.{high_powers}
use Rattle.refusals_sheet.specs.Tests.{record_tests}

-- The first of those from 4 on for a result buffer of so many bytes, 0 where none applies.
unfoldable pub month_number : Layout → List ℕ → ℕ → ℕ
month_number layout s room = first_of (header_tests layout (length s) ++ (room_tests (result_length layout.header) room ++ figure_tests (month_under layout s)))

-- The same where the hours are not read.
unfoldable pub record_number : Layout → List ℕ → ℕ → ℕ
record_number layout s room = first_of (header_tests layout (length s) ++ (room_tests (result_length layout.header) room ++ record_tests (month_under layout s)))

-- Some power in the hours of the first so many producers is above the ceiling.
unfoldable pub high_hours : Layout → List ℕ → ℕ → Bool
high_hours layout s n = any (λ p. high_powers (within (stretch_in layout (length s) p) s)) n

-- A number that was found without the hours, once these are known: a high power in them is 9, which stands
-- before any number above it.
unfoldable pub with_hours : ℕ → Bool → ℕ
with_hours number high = cond (high && (eqb number 0 || ltb 9 number)) 9 number
