use Rattle.std.proofs.Common.{◌≡◌, ◌*◌, ◌≤◌}
use Rattle.rules.specs.Range.{sum}
use Rattle.laws.specs.Bounds.{most_word}
use Rattle.hours.specs.Series.{power_in}
use Rattle.hours.specs.Sums.{asked_of, met_of}
use Rattle.hours.proofs.k4.k4_sums.Given as goal

abbrev pub invariant-loop-i : goal.invariant-loop-i
invariant-loop-i l =
    let working = power_in l.part l.working in
    let possible = power_in l.part l.possible in
    (l.asked ≡ sum (asked_of possible l.summed.0) l.i)
    × (l.met ≡ sum (met_of working possible l.summed.0) l.i)
    × (l.asked ≤ most_word * l.i)
    × (l.met ≤ most_word * l.i)
