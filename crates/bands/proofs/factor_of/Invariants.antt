use Rattle.std.proofs.Common.{◌≡◌, drop}
use Rattle.rules.specs.Bands.{factor_of}
use Rattle.bands.proofs.Bands.{factor_after}
use Rattle.bands.proofs.factor_of.Given as goal

abbrev pub invariant-loop-row : goal.invariant-loop-row
invariant-loop-row l = factor_of l.table l.p ≡ factor_after l.factor (drop l.row-index l.table) l.p
