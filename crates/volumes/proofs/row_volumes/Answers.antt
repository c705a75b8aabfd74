use native.Mathlib.Omega.{arith}
use mathlib.Core.Path.{◌≡◌, sym}
use Prim.Native.Nat.{zero-le}
use lib.ListN.{get_or-replicate}
use Rattle.rules.specs.Cut.{support_volume, bilateral_volume, row_count}
use Rattle.laws.proofs.Arrays.{agrees_as, agrees_filled, agrees_listed}
use Rattle.volumes.specs.Volumes.{no_volumes}
use Rattle.volumes.proofs.Turns.{volumes_whole, volumes_short}
use Rattle.volumes.proofs.Turns.{counted_fits, counted_few, counted_none, counted_own, counted_other}
use Rattle.volumes.proofs.row_volumes.Goals.{else-r-lt6, then-r-lt6}
use Rattle.volumes.proofs.row_volumes.Goals as goal

pub returns-in_default : goal.returns-in_default
returns-in_default c =
    record {
      volumes =
          agrees_listed (agrees_filled 6 no_volumes no_volumes (λ p b. volumes_short _ _ c.in_default.ensures p));
      fits = λ p b. rw (get_or-replicate 6 p no_volumes no_volumes b) (zero-le, zero-le);
    }

pub loop-j-init : goal.loop-j-init
loop-j-init c = counted_none _

pub with_row-requires : goal.with_row-requires
with_row-requires c =
    let k = c.loop-j.invariant in
    (counted_fits k (omega arith) _ c.if-r-lt6.true, counted_few k (omega arith) _ c.if-r-lt6.true)

pub loop-j-preserved : goal.loop-j-preserved
loop-j-preserved c =
    let k = c.loop-j.invariant in
    let is = c.row-r.ensures.there c.loop-j-test.true in
    elim c.if-r-lt6.branch [
      | then-r-lt6 w ↦
          rw (w.all-is, w.with_row.ensures) (counted_own _ _ is (omega arith) _ k w.if-r-lt6.true)
      | else-r-lt6 w ↦ rw w.all-is (counted_other _ _ is (omega arith) _ k w.if-r-lt6.false)
    ]

pub returns : goal.returns
unfolding support_volume bilateral_volume row_count
returns c =
    let sheet = c.in-Some.sheet in
    let same = c.in-Some.ensures in
    let end : c.loop-j.j ≡ sheet.layout.header.rows = omega (arith, c.loop-j-test.false) in
    let all = rw end at c.loop-j.invariant in
    let sums = agrees_as 6 no_volumes (λ p b. sym (volumes_whole _ _ sheet.whole p)) all.agrees in
    rw (
      sym same.0,
      sym same.1,
    )
    (record { volumes = agrees_listed sums; fits = counted_fits all (omega arith) })
