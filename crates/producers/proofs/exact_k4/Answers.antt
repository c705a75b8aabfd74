use mathlib.Core.Path.{◌≡◌, refl}
use Prim.Native.Nat.{ℕ, zero, suc}
use Rattle.rules.specs.Coefficients.{ratio, met_over}
use Rattle.producers.proofs.exact_k4.Goals as goal

-- Where something is asked.
some_asked : (met asked : ℕ) → (asked ≡ 0 → ⊥) → ratio met asked ≡ met_over met asked
unfolding met_over
some_asked met zero n = absurd (n refl)
some_asked met (suc asked) n = refl

pub returns-then-asked-eq0 : goal.returns-then-asked-eq0
unfolding met_over
returns-then-asked-eq0 c = rw c.if-asked-eq0.true

pub returns : goal.returns
returns c = some_asked _ _ c.if-asked-eq0.false
