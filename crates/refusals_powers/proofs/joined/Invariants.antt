use Rattle.std.proofs.Common.{◌≡◌, ◌%◌, ltb}
use Rattle.refusals_powers.specs.Powers.{front_from}
use Rattle.refusals_powers.proofs.joined.Given as goal

abbrev pub invariant-loop-i : goal.invariant-loop-i
invariant-loop-i l = ltb 0 (l.bits % 65536) ≡ front_from l.s l.at l.i
