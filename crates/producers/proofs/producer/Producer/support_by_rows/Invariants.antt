use Rattle.sheet.specs.Month.{month_in}
use Rattle.producers.proofs.After.{CutSoFar}
use Rattle.producers.proofs.producer.Producer.support_by_rows.Given as goal

abbrev pub invariant-loop-j : goal.invariant-loop-j
invariant-loop-j l = CutSoFar (month_in l.self.sheet) l.self.p l.j l.c
