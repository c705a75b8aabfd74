use Rattle.std.proofs.Common.{◌≡◌, ◌*◌, ◌%◌, ltb}
use Rattle.rules.specs.Range.{any}
use Rattle.refusals_powers.specs.Powers.{front_power}
use Rattle.refusals_powers.proofs.all_low.Given as goal

abbrev pub invariant-loop-b : goal.invariant-loop-b
invariant-loop-b l = ltb 0 (l.bits % 65536) ≡ any (front_power l.part) (72 * l.b)
