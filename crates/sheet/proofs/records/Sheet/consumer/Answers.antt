use Rattle.std.proofs.Common.{◌∙◌}
use Rattle.sheet.proofs.Whole.{consumer_there}
use Rattle.sheet.proofs.records.Sheet.consumer.Goals as goal

pub returns-clause-there : goal.returns-clause-there
returns-clause-there c b =
    let s = c.args.self.now in
    c.consumer.ensures ∙ consumer_there s.layout s.bytes.now c.args.c s.whole b
