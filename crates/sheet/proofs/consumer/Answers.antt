use native.Mathlib.Omega.{arith}
use mathlib.Core.Path.{sym, ap, ◌∙◌}
use Prim.Native.Nat.{◌+◌, ◌-◌}
use Rattle.rules.specs.Sheet.{consumer_of}
use Rattle.sheet.proofs.Parts.{consumer_in_part}
use Rattle.sheet.proofs.Whole.{consumer_whole, consumer_short}
use Rattle.sheet.proofs.consumer.Goals as goal

pub returns-then-s-consumer_end : goal.returns-then-s-consumer_end
returns-then-s-consumer_end c =
    let a = c.args in
    let at = c.consumer_at-at.ensures.0 in
    sym (consumer_short a.layout a.s.now a.c (omega (arith, at, c.if-s-consumer_end.true)))

pub returns : goal.returns
returns c =
    let place = c.consumer_at-at in
    let a = c.args in
    let s = a.s.now in
    rw (
      c.word.ensures,
      c.word-2.ensures,
      c.byte.ensures,
      c.byte-2.ensures,
      c.byte-3.ensures,
      c.word-3.ensures,
    )
    (consumer_in_part s place.result (place.result + 15 - place.result) (omega arith)
    ∙ ap (consumer_of s) place.ensures.0
    ∙ sym (consumer_whole a.layout s a.c (omega (arith, place.ensures.0, c.if-s-consumer_end.false))))
