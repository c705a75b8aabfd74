use Rattle.std.proofs.Common.{◌≡◌, true, false, sym, ◌∙◌, arith}
use Rattle.laws.proofs.Range.{any_start, any_more, any_hit, any_end}
use Rattle.transfer_list.proofs.some_entry.Goals as goal

pub loop-i-init : goal.loop-i-init
loop-i-init g c P is = any_start _

pub loop-i-preserved : goal.loop-i-preserved
loop-i-preserved g c P is =
    let said = is c.entry.result c.test.result c.test.ensures in
    let e : P c.entry.result ≡ false = sym said ∙ c.if-test.false in
    any_more _ c.loop-i.i (c.loop-i.invariant P is) (rw c.entry.ensures at e)

pub returns-then-test : goal.returns-then-test
returns-then-test g c P is =
    let said = is c.entry.result c.test.result c.test.ensures in
    let e : P c.entry.result ≡ true = sym said ∙ c.if-test.true in
    sym (any_hit _ _ c.loop-i.i (omega arith) (rw c.entry.ensures at e))

pub returns : goal.returns
returns g c P is =
    sym (any_end _ c.loop-i.auto.i-end c.loop-i-test.false (c.loop-i.invariant P is))
    ∙ rw c.entry_count-count.ensures
