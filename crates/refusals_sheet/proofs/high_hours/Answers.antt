use Rattle.std.proofs.Common.{rules, length}
use Rattle.rules.specs.Outcome.{within}
use Rattle.sheet.specs.Whole.{stretch_in}
use Rattle.refusals_powers.specs.Powers.{high_powers}
use Rattle.refusals_sheet.specs.Numbers.{high_hours}
use Rattle.refusals_sheet.proofs.high_hours.Goals as goal

pub returns : goal.returns
unfolding high_hours
returns c =
    let s = c.args.s.now in
    let layout = c.args.layout in
    c.some.ensures (λ p. high_powers (within (stretch_in layout (length s) p) s))
    (λ p below b post. search rules)
