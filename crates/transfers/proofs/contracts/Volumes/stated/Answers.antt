use Rattle.std.proofs.Common.{◌≡◌, ap, ◌∙◌, arith}
use Rattle.rules.specs.declared.Consumer.{Consumer}
use Rattle.laws.proofs.Arrays.{filled_none, filled_more, agrees_listed}
use Rattle.units.specs.Sums.{tenths}
use Rattle.transfers.specs.Held.{stated_in}
use Rattle.transfers.proofs.contracts.Volumes.stated.Goals as goal

pub loop-c-init : goal.loop-c-init
loop-c-init c = filled_none 32 (tenths 0) (tenths 0) _

pub loop-c-preserved : goal.loop-c-preserved
loop-c-preserved c =
    let there = ap (λ (k : Consumer). k.contract) (c.consumer-k.ensures.there c.loop-c-test.true) in
    filled_more 32 (tenths 0) (tenths 0) _ c.loop-c.c (omega arith) (ap tenths (c.stated.ensures.0 ∙ there))
    c.loop-c.invariant

pub returns : goal.returns
unfolding stated_in
returns c =
    let l = c.loop-c in
    let e : l.c ≡ c.args.sheet.now.layout.header.consumers = omega arith in
    rw (agrees_listed (rw e at l.invariant))
