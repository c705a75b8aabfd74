use mathlib.Core.Path.{◌≡◌, refl}
use native.Mathlib.Omega.{arith}
use Rattle.rules.specs.Cut.{support_volume}
use Rattle.rules.specs.Coefficients.{support_after}
use Rattle.producers.proofs.After.{cut_none, cut_own, cut_other}
use Rattle.producers.proofs.producer.Producer.support_by_rows.Goals.{else-r-self, then-r-self}
use Rattle.producers.proofs.producer.Producer.support_by_rows.Goals as goal

pub loop-j-init : goal.loop-j-init
loop-j-init c = cut_none _ _ _ c.requires refl

pub with_row-c-requires : goal.with_row-c-requires
with_row-c-requires c = omega (arith, c.loop-j.invariant.few)

pub loop-j-preserved : goal.loop-j-preserved
loop-j-preserved c =
    let cut = c.loop-j.invariant in
    let is = c.row-r.ensures.there c.loop-j-test.true in
    elim c.if-r-self.branch [
      | then-r-self w ↦
          rw (w.c-is, w.with_row-c.ensures) (cut_own _ _ _ is cut w.if-r-self.true (omega arith))
      | else-r-self w ↦ rw w.c-is (cut_other _ _ _ is cut w.if-r-self.false)
    ]

pub returns : goal.returns
unfolding support_after support_volume
returns c =
    let end : c.loop-j.j ≡ c.args.self.now.sheet.layout.header.rows = omega (arith, c.loop-j-test.false) in
    rw end at c.loop-j.invariant.support
