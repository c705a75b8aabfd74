use Rattle.std.proofs.Common.{◌∙◌}
use Rattle.sheet.proofs.Whole.{stated_there}
use Rattle.sheet.proofs.records.Sheet.producer.Goals as goal

pub returns-clause-there : goal.returns-clause-there
returns-clause-there c b =
    let s = c.args.self.now in
    c.producer.ensures ∙ stated_there s.layout s.bytes.now c.args.p s.whole b
