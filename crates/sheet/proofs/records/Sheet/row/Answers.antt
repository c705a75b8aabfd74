use Rattle.std.proofs.Common.{◌∙◌}
use Rattle.sheet.proofs.Whole.{row_there}
use Rattle.sheet.proofs.records.Sheet.row.Goals as goal

pub returns-clause-there : goal.returns-clause-there
returns-clause-there c b =
    let s = c.args.self.now in
    c.row.ensures ∙ row_there s.layout s.bytes.now c.args.j s.whole b
