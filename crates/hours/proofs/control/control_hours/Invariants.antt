use Rattle.std.proofs.Common.{◌≡◌, ℕ, ◌+◌, ◌*◌, ◌<◌, ◌≤◌}
use Rattle.rules.specs.Range.{sum}
use Rattle.laws.specs.Bounds.{most_word}
use Rattle.hours.specs.Control.{control_of}
use Rattle.hours.proofs.control.control_hours.Given as goal

abbrev pub invariant-loop-day : goal.invariant-loop-day
invariant-loop-day g l =
    ((series : ℕ → ℕ)
    → ((i : ℕ) → (v : ℕ) → i < 24 * l.days → g.F.Fn.post l.power_of (i, tt) v → v ≡ series i)
    → (l.counted.0 ≡ (control_of series l.control.on l.day).counted.0)
    × (l.count ≡ (control_of series l.control.on l.day).count))
    × (l.counted.0 ≤ most_word * l.count)
    × (l.count ≤ 6 * l.day)

abbrev pub invariant-loop-t : goal.invariant-loop-t
invariant-loop-t g l =
    ((series : ℕ → ℕ)
    → ((i : ℕ) → (v : ℕ) → i < 24 * l.days → g.F.Fn.post l.power_of (i, tt) v → v ≡ series i)
    → l.counted.0
    ≡ (control_of series l.control.on l.day).counted.0
    + sum (λ t. series (24 * l.day + (17 + t))) l.t)
    × (l.counted.0 ≤ most_word * (l.count + l.t))
