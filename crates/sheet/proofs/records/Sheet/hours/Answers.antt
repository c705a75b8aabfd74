use Rattle.sheet.proofs.Whole.{stretch_there}
use Rattle.sheet.proofs.records.Sheet.hours.Goals as goal

pub returns-clause-there : goal.returns-clause-there
returns-clause-there c b =
    let s = c.args.self.now in stretch_there s.layout s.bytes.now c.args.p s.whole b c.stretch.ensures.part
