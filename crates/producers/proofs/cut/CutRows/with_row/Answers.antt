use mathlib.Core.Path.{ap, ◌∙◌}
use native.Mathlib.Nat.{add-zero}
use native.Mathlib.Omega.{arith}
use borrow.Author.Tests.{eq-eqb, ne_eqb}
use Rattle.rules.specs.Range.{when}
use Rattle.units.specs.Sums.{tenths}
use Rattle.units.proofs.Adding.{added_exact}
use Rattle.producers.specs.After.{cut_row}
use Rattle.producers.proofs.cut.CutRows.with_row.Goals as goal

pub returns-then-r-eq255 : goal.returns-then-r-eq255
unfolding cut_row when
returns-then-r-eq255 c =
    let volume = c.stated-volume.ensures in
    let cut = c.less.ensures in
    let sum = c.plus-support.ensures ∙ added_exact _ _ (omega (arith, cut, volume, c.requires)) in
    rw (eq-eqb _ 255 c.if-r-eq255.true, ap tenths c.less-after.ensures, ap tenths sum, cut, volume.0)

pub returns-else-r-eq255 : goal.returns-else-r-eq255
unfolding cut_row when
returns-else-r-eq255 c =
    rw (ne_eqb _ 255 c.if-r-eq255.false, ap tenths c.less-after.ensures, c.stated-volume.ensures.0, add-zero)
