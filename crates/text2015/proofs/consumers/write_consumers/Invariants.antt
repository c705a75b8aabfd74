-- The records of the consumers so far stand at the front.
use Rattle.std.proofs.Common.{◌≡◌}
use Rattle.rules.specs.Fields.{joined, over}
use Rattle.rules.specs.Sheet.{month_under}
use Rattle.rules.specs.Result2015.{record_2015}
use Rattle.text2015.proofs.consumers.write_consumers.Given as goal

abbrev pub invariant-loop-c : goal.invariant-loop-c
invariant-loop-c l =
    l.out ≡ over (joined (record_2015 (month_under l.sheet.layout l.sheet.bytes.now)) l.c) l.initial.out
