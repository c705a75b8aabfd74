use Prim.Native.Nat.{◌<◌}
use mathlib.Core.Path.{sym}
use native.Mathlib.Omega.{arith}
use Rattle.rules.specs.Units.{rounded, in_thousandths}
use Rattle.rules.specs.Coefficients.{share, less_penalty, millionths_of}
use Rattle.laws.proofs.Coefficients.{penalty_of_none, penalty_rounded}
use Rattle.producers.proofs.k1.less_penalty.Goals as goal

pub returns-then-penalty-eq0 : goal.returns-then-penalty-eq0
unfolding less_penalty millionths_of share rounded
returns-then-penalty-eq0 c = rw (c.if-support-eq0.true, c.if-penalty-eq0.true)

pub returns-then-support-eq0 : goal.returns-then-support-eq0
unfolding millionths_of share rounded
returns-then-support-eq0 c = rw (c.if-support-eq0.true, penalty_of_none _ c.if-penalty-eq0.false)

pub overflow_mul-left : goal.overflow_mul-left
unfolding in_thousandths
overflow_mul-left c = omega (arith, c.less-left.ensures, c.of_tenths.ensures, c.requires)

pub returns : goal.returns
returns c =
    let some : 0 < c.args.support.0 = omega arith in
    rw (c.nearest.ensures, c.less-left.ensures, c.of_tenths.ensures) (sym (penalty_rounded _ _ some))
