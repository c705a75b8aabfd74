use Rattle.std.proofs.Common.{◌≡◌}
use Rattle.rules.specs.Sheet.{with_contracts}
use Rattle.transfers.specs.Held.{read}
use Rattle.transfers.proofs.contracts.Volumes.write.Given as goal

abbrev pub invariant-loop-c : goal.invariant-loop-c
invariant-loop-c l =
    l.s ≡ with_contracts l.layout (read l.self) l.c l.initial.s
