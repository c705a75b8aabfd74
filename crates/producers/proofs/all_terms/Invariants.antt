use Rattle.rules.specs.Said.{number_or_none}
use Rattle.producers.proofs.Cuts.{Tried}
use Rattle.producers.proofs.all_terms.Given as goal

abbrev pub invariant-loop-p : goal.invariant-loop-p
invariant-loop-p l = Tried l.sheet.layout l.sheet.bytes.now l.p l.all (number_or_none l.tried)
