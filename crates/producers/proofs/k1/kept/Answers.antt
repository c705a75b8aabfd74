use mathlib.Core.Path.{◌≡◌, refl}
use Prim.Native.Nat.{ℕ, zero, suc, zero-le, ◌≤◌}
use native.Mathlib.Omega.{arith}
use Rattle.rules.specs.Units.{tenths_ceiling, in_thousandths}
use Rattle.laws.specs.ShortForm.{kept}
use mathlib.Core.Bool.{false}
use Rattle.producers.proofs.k1.kept.Goals as goal

-- A bilateral row with n × D above 0.
nothing_left : (volume penalty : ℕ) → (penalty ≡ 0 → ⊥) → 0 ≡ kept false volume penalty
unfolding kept
nothing_left volume zero n = absurd (n refl)
nothing_left volume (suc x) n = refl

-- A volume within its ceiling, in thousandths.
most : {volume : ℕ} → volume ≤ tenths_ceiling → in_thousandths volume ≤ in_thousandths tenths_ceiling
unfolding in_thousandths
most l = omega arith

pub of_tenths-all-requires : goal.of_tenths-all-requires
of_tenths-all-requires c = omega (arith, c.requires)

pub returns-then-support : goal.returns-then-support
unfolding kept
returns-then-support c =
    let all = c.of_tenths-all.ensures in
    (rw (c.if-support.true, c.less.ensures, all), omega (arith, c.less.ensures, all, most c.requires))

pub returns-then-penalty-eq0 : goal.returns-then-penalty-eq0
unfolding kept
returns-then-penalty-eq0 c =
    let all = c.of_tenths-all.ensures in
    (rw (c.if-support.false, c.if-penalty-eq0.true, all), omega (arith, all, most c.requires))

pub returns : goal.returns
returns c = (rw c.if-support.false (nothing_left _ _ c.if-penalty-eq0.false), zero-le)
