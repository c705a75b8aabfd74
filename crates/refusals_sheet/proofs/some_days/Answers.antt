use Rattle.std.proofs.Common.{rules}
use Rattle.rules.specs.Sheet.{month_under}
use Rattle.rules.specs.Refusals.{bad_days}
use Rattle.refusals_sheet.proofs.some_days.Goals as goal

pub returns : goal.returns
returns c =
    let sheet = c.args.sheet.now in
    let m = month_under sheet.layout sheet.bytes.now in
    c.some.ensures (λ j. bad_days m.header (m.row j)) (λ j below b post. search rules)
