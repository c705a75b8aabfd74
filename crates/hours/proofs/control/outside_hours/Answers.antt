use Rattle.std.proofs.Common.{ℕ, ◌+◌, ◌*◌, ◌<◌, sym, ◌∙◌, arith}
use Rattle.hours.specs.Series.{Stands}
use Rattle.hours.proofs.Standing.{each_stands}
use Rattle.hours.proofs.control.outside_hours.Goals as goal

pub control_hours-requires-clause-powers : goal.control_hours-requires-clause-powers
control_hours-requires-clause-powers c =
    let a = c.args in
    let stand : (i : ℕ) → i < 24 * a.days → Stands a.part.now a.x (i + 1) × (i < 65536) =
    λ i l. (each_stands a.part.now a.x (sym c.stands.ensures ∙ c.if-not-stands.false) l, omega arith) in
    search stand
