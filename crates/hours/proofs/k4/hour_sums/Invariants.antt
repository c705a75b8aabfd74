use Rattle.std.proofs.Common.{◌≡◌, ◌%◌, ◌^◌}
use Rattle.rules.specs.Range.{sum, any}
use Rattle.rules.specs.Refusals.{too_high}
use Rattle.rules.specs.Sheet.{series}
use Rattle.hours.specs.Series.{power_in}
use Rattle.hours.specs.Sums.{asked_of, met_of, hour_high}
use Rattle.hours.proofs.k4.hour_sums.Given as goal

abbrev pub invariant-loop-i : goal.invariant-loop-i
invariant-loop-i g l =
    let step = g.row.STEP in
    let working = power_in l.part (series 0 step) in
    let possible = power_in l.part (series l.possible step) in
    record {
      tried : g.row.LOW ≡ 0 → too_high l.most ≡ any (hour_high l.part step l.possible l.outside) l.i;
      low : (g.row.LOW ≡ 0 → ⊥) → l.most ≡ 0;
      asked : l.asked ≡ sum (asked_of possible l.held) l.i % 2 ^ 32;
      met : l.met ≡ sum (met_of working possible l.held) l.i % 2 ^ 32;
    }
