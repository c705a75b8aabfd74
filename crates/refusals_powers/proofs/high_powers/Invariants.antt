use Rattle.std.proofs.Common.{◌≡◌}
use Rattle.rules.specs.Range.{any}
use Rattle.rules.specs.Refusals.{too_high}
use Rattle.refusals_powers.specs.Powers.{high_power}
use Rattle.refusals_powers.proofs.high_powers.Given as goal

abbrev pub invariant-loop-i : goal.invariant-loop-i
invariant-loop-i l = too_high l.most ≡ any (high_power l.part) l.i
