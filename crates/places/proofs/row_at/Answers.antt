use Prim.Native.Nat.{◌*◌, ◌≤◌}
use native.Mathlib.Nat.{mul-le-mul}
use native.Mathlib.Omega.{arith}
use Rattle.rules.specs.Sheet.{row_at}
use Rattle.places.proofs.row_at.Goals.{After-row_width}
use Rattle.places.proofs.row_at.Goals as goal

-- The bytes of the rows before one: at most 255 rows of 12.
rows_le : (c : After-row_width) → c.row_width.result * c.args.j ≤ 3060
rows_le c = mul-le-mul {n₂ = 12} {m₂ = 255} c.row_width.ensures.1 (omega arith)

pub overflow_mul-result : goal.overflow_mul-result
overflow_mul-result c = omega (arith, rows_le c)

pub overflow_add-result : goal.overflow_add-result
overflow_add-result c = omega (arith, rows_le c, c.producer_at.ensures.1)

pub returns : goal.returns
unfolding row_at
returns c =
    (rw (c.row_width.ensures.0, c.producer_at.ensures.0), omega (arith, rows_le c, c.producer_at.ensures.1))
