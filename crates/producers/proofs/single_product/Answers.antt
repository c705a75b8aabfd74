use Prim.Native.Nat.{◌≤◌}
use native.Mathlib.Nat.{mul-le-mul}
use native.Mathlib.Omega.{arith}
use borrow.Author.Tests.{lt-ltb}
use Rattle.rules.specs.Units.{tenths_ceiling, in_thousandths}
use Rattle.rules.specs.Refusals.{too_high}
use Rattle.laws.specs.ShortForm.{in_short}
use Rattle.laws.proofs.Refusals.{clear_high}
use Rattle.producers.specs.Terms.{single_product}
use Rattle.producers.proofs.single_product.Goals as goal

pub returns-then-volume-gt-CEILING : goal.returns-then-volume-gt-CEILING
unfolding single_product too_high
returns-then-volume-gt-CEILING c = rw (lt-ltb _ _ c.if-volume-gt-CEILING.true)

-- What is left fits: 10,000,000 thousandths, as millionths, in so many hours.
pub overflow_mul-left : goal.overflow_mul-left
unfolding in_thousandths
overflow_mul-left c = omega (arith, c.kept-left.ensures.1)

pub overflow_mul-left-2 : goal.overflow_mul-left-2
unfolding in_thousandths
overflow_mul-left-2 c =
    let left : c.kept-left.result.0 ≤ 10000000 = omega (arith, c.kept-left.ensures.1) in
    omega (arith, mul-le-mul left c.requires)

pub returns : goal.returns
unfolding single_product in_short
returns c =
    let v : c.args.volume.0 ≤ tenths_ceiling = omega (arith, c.if-volume-gt-CEILING.false) in
    rw (clear_high _ v, c.nearest.ensures, c.kept-left.ensures.0)
