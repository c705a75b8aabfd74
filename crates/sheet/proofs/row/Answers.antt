use native.Mathlib.Omega.{arith}
use mathlib.Core.Path.{sym, ap, ◌∙◌}
use Prim.Native.Nat.{◌+◌, ◌-◌}
use Rattle.rules.specs.Sheet.{row_of}
use Rattle.sheet.proofs.Parts.{row_in_part}
use Rattle.sheet.proofs.Whole.{row_whole, row_short}
use Rattle.sheet.proofs.row.Goals as goal

pub returns-then-s-row_end : goal.returns-then-s-row_end
returns-then-s-row_end c =
    let a = c.args in
    let at = c.row_at-at.ensures.0 in
    let width = c.row_width.ensures.0 in
    sym (row_short a.layout a.s.now a.j (omega (arith, at, width, c.if-s-row_end.true)))

pub returns : goal.returns
returns c =
    let width = c.row_width in
    let place = c.row_at-at in
    let a = c.args in
    let s = a.s.now in
    rw (
      c.byte.ensures,
      c.byte-2.ensures,
      c.word.ensures,
      c.word-2.ensures,
      c.day_at.ensures,
      c.day_at-2.ensures,
    )
    (row_in_part s place.result (place.result + width.result - place.result) a.layout (omega (arith, width.ensures.0))
    ∙ ap (row_of a.layout s) place.ensures.0
    ∙ sym (row_whole a.layout s a.j (omega (arith, place.ensures.0, width.ensures.0, c.if-s-row_end.false))))
