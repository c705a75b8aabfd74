use Rattle.std.proofs.Common.{rules, ◌∙◌}
use Rattle.rules.specs.Refusals.{bad_share}
use Rattle.sheet.specs.Whole.{stated_in}
use Rattle.refusals_record.specs.Stated.{without_power}
use Rattle.refusals_sheet.proofs.Hours.{shares_read}
use Rattle.refusals_sheet.proofs.some_share.Goals as goal

pub returns : goal.returns
returns c =
    let sheet = c.args.sheet.now in
    let layout = sheet.layout in
    let s = sheet.bytes.now in
    c.some.ensures (λ p. bad_share layout.header (without_power (stated_in layout s p)))
    (λ p below b post. search rules)
    ∙ shares_read layout s sheet.whole
