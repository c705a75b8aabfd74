use mathlib.Core.Path.{sym, ap, ◌∙◌}
use Prim.Native.Nat.{◌+◌, ◌-◌}
use native.Mathlib.Omega.{arith}
use Rattle.rules.specs.Sheet.{stated_of}
use Rattle.sheet.proofs.Parts.{stated_in_part}
use Rattle.sheet.proofs.Whole.{stated_whole, stated_short}
use Rattle.sheet.proofs.producer.Goals as goal

pub returns-then-s-stated_end : goal.returns-then-s-stated_end
returns-then-s-stated_end c =
    let a = c.args in
    let at = c.producer_at-at.ensures.0 in
    sym (stated_short a.layout a.s.now a.p (omega (arith, at, c.if-s-stated_end.true)))

pub returns : goal.returns
returns c =
    let a = c.args in
    let at = c.producer_at-at in
    rw (
      c.word.ensures,
      c.word-2.ensures,
      c.word-3.ensures,
      c.half.ensures,
      c.half-2.ensures,
      c.half-3.ensures,
      c.word-4.ensures,
      c.word-5.ensures,
      c.word-6.ensures,
      c.word-7.ensures,
      c.word-8.ensures,
      c.word-9.ensures,
    )
    (stated_in_part a.s.now at.result (at.result + 42 - at.result) (omega arith)
    ∙ ap (stated_of a.s.now) at.ensures.0
    ∙ sym (stated_whole a.layout a.s.now a.p (omega (arith, at.ensures.0, c.if-s-stated_end.false))))
