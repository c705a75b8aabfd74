use mathlib.Core.Path.{ap, ◌∙◌}
use native.Mathlib.Nat.{add-zero}
use native.Mathlib.Omega.{arith}
use borrow.Author.Tests.{eq-eqb, ne_eqb}
use Rattle.rules.specs.Range.{when}
use Rattle.units.specs.Sums.{tenths}
use Rattle.units.proofs.Adding.{added_exact}
use Rattle.volumes.specs.Volumes.{with_row}
use Rattle.volumes.proofs.Volumes.with_row.Goals as goal

pub returns-then-r-eq255 : goal.returns-then-r-eq255
unfolding with_row when
returns-then-r-eq255 c =
    rw (
      eq-eqb _ 255 c.if-r-eq255.true,
      add-zero,
      ap tenths (c.plus.ensures ∙ added_exact _ _ (omega arith)),
      c.stated-volume.ensures.0,
    )

pub returns-else-r-eq255 : goal.returns-else-r-eq255
unfolding with_row when
returns-else-r-eq255 c =
    rw (
      ne_eqb _ 255 c.if-r-eq255.false,
      add-zero,
      ap tenths (c.plus-else-r-eq255.ensures ∙ added_exact _ _ (omega arith)),
      c.stated-volume.ensures.0,
    )
