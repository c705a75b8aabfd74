use Rattle.std.proofs.Common.{◌≡◌, true, false, rules, refl, sym, ◌∙◌}
use mathlib.Core.Bool.{or-false}
use Rattle.rules.specs.Sheet.{month_under}
use Rattle.rules.specs.Refusals.{one_of, some_row, too_dear}
use Rattle.refusals_sheet.proofs.some_dear.Goals as goal

pub returns-then-some : goal.returns-then-some
unfolding one_of
returns-then-some c =
    let sheet = c.args.sheet.now in
    let m = month_under sheet.layout sheet.bytes.now in
    let row : some_row m (λ r. too_dear r.price) ≡ true =
    sym (c.some.ensures (λ j. too_dear (m.row j).price) (λ j below b post. search rules)) ∙ c.if-some.true in
    rw row refl

pub returns : goal.returns
unfolding one_of
returns c =
    let sheet = c.args.sheet.now in
    let m = month_under sheet.layout sheet.bytes.now in
    let row : some_row m (λ r. too_dear r.price) ≡ false =
    sym (c.some.ensures (λ j. too_dear (m.row j).price) (λ j below b post. search rules)) ∙ c.if-some.false in
    rw (
      c.some-2.ensures (λ k. too_dear (m.consumer k).price) (λ k below b post. search rules),
      row,
      or-false,
    )
