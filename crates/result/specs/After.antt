-- What stands in the buffer after the numbers from 4 on were tried under a layout.
use Rattle.std.specs.Prelude.{ℕ, cond, List, length, eqb}
use Rattle.rules.specs.declared.Layout.{Layout}
use Rattle.rules.specs.Fields.{over}
use Rattle.rules.specs.Sheet.{month_under}
use Rattle.rules.specs.Result.{result_of}
use Rattle.refusals_sheet.specs.Numbers.{month_number}

-- The result over the buffer's front where no number applies, otherwise the buffer as it was.
unfoldable pub month_after : Layout → List ℕ → List ℕ → List ℕ
month_after layout s out =
    cond (eqb (month_number layout s (length out)) 0) (over (result_of (month_under layout s)) out) out
