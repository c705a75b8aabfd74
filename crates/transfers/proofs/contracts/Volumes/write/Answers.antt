use Rattle.std.proofs.Common.{refl}
use Rattle.rules.specs.Sheet.{with_contracts}
use Rattle.transfers.specs.Held.{read}
use Rattle.transfers.proofs.Written.{contract_put}
use Rattle.transfers.proofs.contracts.Volumes.write.Goals as goal

pub loop-c-init : goal.loop-c-init
unfolding with_contracts
loop-c-init c = refl

pub loop-c-preserved : goal.loop-c-preserved
unfolding read
loop-c-preserved c =
    let a = c.args in
    contract_put a.layout (read a.self.now) a.s.now c.requires.0 c.loop-c.c c.loop-c-test.true
    c.loop-c.invariant c.contract_at-at.ensures.0 c.last_four.ensures c.put.ensures
