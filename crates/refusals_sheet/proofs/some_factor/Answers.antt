use Rattle.std.proofs.Common.{rules}
use Rattle.rules.specs.Sheet.{month_under}
use Rattle.rules.specs.Refusals.{bad_factor}
use Rattle.refusals_sheet.proofs.some_factor.Goals as goal

pub returns : goal.returns
returns c =
    let sheet = c.args.sheet.now in
    let m = month_under sheet.layout sheet.bytes.now in
    c.some.ensures (λ k. bad_factor m.header (m.consumer k)) (λ k below b post. search rules)
