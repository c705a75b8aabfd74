-- T after the cut, row by row, as the struct that carries it.
use Rattle.std.specs.Prelude.{◌+◌, ◌-◌, eqb}
use Rattle.rules.specs.declared.Row.{Row}
use Rattle.rules.specs.Range.{when}
use Rattle.units.specs.Sums.{tenths}
use Rattle.producers.specs.declared.cut.CutRows.{CutRows}

-- With a row of the producer more. [Cut; Requests, 8]
unfoldable pub cut_row : CutRows → Row → CutRows
cut_row c r =
    record {
      left = tenths (c.left.0 - r.volume);
      support = tenths (c.support.0 + when (eqb r.consumer 255) (r.volume - c.left.0));
    }
