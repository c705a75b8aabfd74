use Rattle.std.proofs.Common.{ℕ, ◌+◌, ◌*◌, ◌<◌, sym, ◌∙◌, arith}
use Rattle.hours.specs.Series.{Stands}
use Rattle.hours.proofs.Standing.{both_stand}
use Rattle.hours.proofs.control.net_hours.Goals as goal

pub control_hours-requires-clause-powers : goal.control_hours-requires-clause-powers
control_hours-requires-clause-powers c =
    let a = c.args in
    let told = sym c.both_stand.ensures ∙ c.if-not-both_stand.false in
    let stand : (i : ℕ) → i < 24 * a.days
    → Stands a.part.now a.of (i + 1) × Stands a.part.now a.taken (i + 1) × (i < 65536) =
    λ i l. let two = both_stand a.part.now a.of a.taken told l in (two.0, two.1, omega arith) in
    search stand
