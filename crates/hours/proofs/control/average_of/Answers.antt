use Rattle.std.proofs.Common.{◌*◌, ◌≤◌, mul-le-mul, arith}
use Rattle.laws.proofs.Coefficients.{average_is}
use Rattle.laws.specs.Bounds.{most_word}
use Rattle.hours.proofs.control.average_of.Goals as goal

pub overflow_mul-fineness : goal.overflow_mul-fineness
overflow_mul-fineness c =
    let total : c.args.control.counted.0 ≤ most_word * 186 = omega (arith, c.requires.0, c.requires.1) in
    omega (arith, mul-le-mul c.requires.2 total)

pub returns : goal.returns
returns c = rw (c.nearest.ensures, average_is)
