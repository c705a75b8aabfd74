use Rattle.std.proofs.Common.{sym, ◌∙◌, add-one, arith}
use Rattle.bands.proofs.Bands.{from_first, row_holds, row_passed, past_last}
use Rattle.bands.proofs.factor_of.Goals as goal

pub loop-row-init : goal.loop-row-init
loop-row-init c = from_first c.args.table.now c.args.p

pub loop-row-preserved : goal.loop-row-preserved
loop-row-preserved c =
    let l = c.loop-row in
    rw add-one (l.invariant ∙ row_passed _ l.row-index _ _ (omega arith) (omega arith))

pub returns-then-p-row : goal.returns-then-p-row
returns-then-p-row c =
    let l = c.loop-row in
    sym (l.invariant ∙ row_holds _ l.row-index _ _ (omega arith) (omega arith))

pub returns : goal.returns
returns c =
    let l = c.loop-row in
    sym (l.invariant ∙ past_last _ l.row-index _ _ (omega arith))
