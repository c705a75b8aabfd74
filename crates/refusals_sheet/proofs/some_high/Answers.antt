use Rattle.std.proofs.Common.{◌≡◌, true, false, rules, refl, sym, ◌∙◌}
use mathlib.Core.Bool.{or-true, or-false}
use Rattle.rules.specs.Sheet.{month_under}
use Rattle.rules.specs.Refusals.{one_of, some_producer, some_row, high_row, high_consumer}
use Rattle.sheet.specs.Whole.{stated_in}
use Rattle.refusals_record.specs.Stated.{high_stated}
use Rattle.refusals_sheet.specs.Tests.{high_figures}
use Rattle.refusals_sheet.proofs.Hours.{stated_read}
use Rattle.refusals_sheet.proofs.some_high.Goals as goal

pub returns-then-some : goal.returns-then-some
unfolding one_of
returns-then-some c =
    let sheet = c.args.sheet.now in
    let m = month_under sheet.layout sheet.bytes.now in
    let stated : some_producer m high_figures ≡ true =
    sym (c.some.ensures (λ p. high_stated (stated_in sheet.layout sheet.bytes.now p))
    (λ p below b post. search rules) ∙ stated_read sheet.layout sheet.bytes.now sheet.whole)
    ∙ c.if-some.true in
    rw stated refl

pub returns-then-some-2 : goal.returns-then-some-2
unfolding one_of high_row
returns-then-some-2 c =
    let sheet = c.args.sheet.now in
    let m = month_under sheet.layout sheet.bytes.now in
    let row : some_row m high_row ≡ true =
    sym (c.some-2.ensures (λ j. high_row (m.row j)) (λ j below b post. search rules)) ∙ c.if-some-2.true in
    rw (row, or-true (some_producer m high_figures)) refl

pub returns : goal.returns
unfolding one_of high_row
returns c =
    let sheet = c.args.sheet.now in
    let m = month_under sheet.layout sheet.bytes.now in
    let stated : some_producer m high_figures ≡ false =
    sym (c.some.ensures (λ p. high_stated (stated_in sheet.layout sheet.bytes.now p))
    (λ p below b post. search rules) ∙ stated_read sheet.layout sheet.bytes.now sheet.whole)
    ∙ c.if-some.false in
    let row : some_row m high_row ≡ false =
    sym (c.some-2.ensures (λ j. high_row (m.row j)) (λ j below b post. search rules)) ∙ c.if-some-2.false in
    rw (
      c.some-3.ensures (λ k. high_consumer (m.consumer k)) (λ k below b post. search rules),
      stated,
      row,
      or-false,
    )
