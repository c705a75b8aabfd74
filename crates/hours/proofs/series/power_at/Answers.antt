use Rattle.std.proofs.Common.{arith}
use Rattle.rules.specs.Fields.{big_endian}
use Rattle.hours.proofs.series.power_at.Goals as goal

pub returns : goal.returns
unfolding big_endian
returns c = grind (arith, c.from_be_bytes.ensures)
