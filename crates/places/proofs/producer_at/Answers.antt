use native.Mathlib.Omega.{arith}
use Rattle.rules.specs.Sheet.{producer_at}
use Rattle.laws.proofs.Sheet.{producers_le}
use Rattle.places.proofs.producer_at.Goals as goal

pub overflow_mul-result-2 : goal.overflow_mul-result-2
overflow_mul-result-2 c =
    omega (arith, producers_le c.args.p c.args.layout.header.days (omega arith) (omega arith))

pub overflow_add-result-2 : goal.overflow_add-result-2
overflow_add-result-2 c =
    omega (arith, producers_le c.args.p c.args.layout.header.days (omega arith) (omega arith))

pub returns : goal.returns
unfolding producer_at
returns c =
    (omega arith, omega (arith, producers_le c.args.p c.args.layout.header.days (omega arith) (omega arith)))
