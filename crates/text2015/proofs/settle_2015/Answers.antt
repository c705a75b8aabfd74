use Rattle.text2015.proofs.Answered.{month_limits}
use Rattle.text2015.proofs.settle_2015.Goals as goal

pub write_result-requires-clause-limits : goal.write_result-requires-clause-limits
write_result-requires-clause-limits c =
    let found = c.in_ok-whole.ensures in
    let none = rw (c.length_2015-count.ensures, c.layout.ensures) at found.number in
    month_limits c.args.sheet.now c.args.res.now none _ _ found.read.0 found.read.1
