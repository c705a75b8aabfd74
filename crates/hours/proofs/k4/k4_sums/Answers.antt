use Rattle.std.proofs.Common.{◌≡◌, ◌*◌, sym, ◌∙◌, zero-le, arith}
use Rattle.laws.proofs.Range.{sum_none, sum_fold}
use Rattle.hours.specs.Sums.{k4_in}
use Rattle.hours.proofs.Standing.{both_stand}
use Rattle.hours.proofs.k4.k4_sums.Goals as goal

pub loop-i-init : goal.loop-i-init
loop-i-init c = (sym (sum_none _), sym (sum_none _), zero-le, zero-le)

pub power-p-requires : goal.power-p-requires
power-p-requires c =
    let told = sym c.both_stand.ensures ∙ c.if-not-both_stand.false in
    ((both_stand _ c.args.working c.args.possible told (omega arith)).1, omega arith)

pub power-w-requires : goal.power-w-requires
power-w-requires c =
    let told = sym c.both_stand.ensures ∙ c.if-not-both_stand.false in
    ((both_stand _ c.args.working c.args.possible told (omega arith)).0, omega arith)

pub loop-i-preserved : goal.loop-i-preserved
loop-i-preserved c =
    let inv = c.loop-i.invariant in
    let m = c.min-m.ensures ∙ rw c.power-p.ensures in
    let met = c.min-met.ensures ∙ rw (m, c.power-w.ensures) in (
      sum_fold _ _ inv.0 m,
      sum_fold _ _ inv.1 met,
      omega (arith, c.min-m.ensures),
      omega (arith, c.min-met.ensures, c.min-m.ensures),
    )

pub returns : goal.returns
unfolding k4_in
returns c =
    let inv = c.loop-i.invariant in
    let end : c.loop-i.i ≡ 24 * c.args.days = omega arith in
    rw (sym c.both_stand.ensures, c.if-not-both_stand.false, inv.0, inv.1, end)
