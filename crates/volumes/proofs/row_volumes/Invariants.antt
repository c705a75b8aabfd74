use Rattle.rules.specs.Sheet.{month_under}
use Rattle.volumes.proofs.Turns.{Counted}
use Rattle.volumes.proofs.row_volumes.Given as goal

abbrev pub invariant-loop-j : goal.invariant-loop-j
invariant-loop-j l = Counted (month_under l.sheet.layout l.sheet.bytes.now) l.j l.all
