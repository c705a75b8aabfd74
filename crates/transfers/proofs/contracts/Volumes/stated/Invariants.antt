use Rattle.rules.specs.Sheet.{month_under}
use Rattle.rules.specs.Transfers.{contracts}
use Rattle.laws.proofs.Arrays.{Agrees, filled}
use Rattle.units.specs.Sums.{tenths}
use Rattle.transfers.proofs.contracts.Volumes.stated.Given as goal

abbrev pub invariant-loop-c : goal.invariant-loop-c
invariant-loop-c l =
    Agrees 32 (tenths 0)
    (filled (tenths 0) (λ k. tenths (contracts (month_under l.sheet.layout l.sheet.bytes.now) k)) l.c)
    l.volumes.of
