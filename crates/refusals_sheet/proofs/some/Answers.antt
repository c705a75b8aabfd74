use Rattle.std.proofs.Common.{sym, ◌∙◌}
use Rattle.laws.proofs.Range.{any_start, any_more, any_hit, any_end}
use Rattle.refusals_sheet.proofs.some.Goals as goal

pub loop-i-init : goal.loop-i-init
loop-i-init g c P is = any_start P

pub loop-i-preserved : goal.loop-i-preserved
loop-i-preserved g c P is =
    let i = c.loop-i.i in
    any_more P i (c.loop-i.invariant P is)
    (sym (is i c.loop-i-test.true c.test.result c.test.ensures) ∙ c.if-test.false)

pub returns-then-test : goal.returns-then-test
returns-then-test g c P is =
    let i = c.loop-i.i in
    sym (any_hit P c.args.count i c.loop-i-test.true
    (sym (is i c.loop-i-test.true c.test.result c.test.ensures) ∙ c.if-test.true))

pub returns : goal.returns
returns g c P is = sym (any_end P c.loop-i.auto.i-end c.loop-i-test.false (c.loop-i.invariant P is))
