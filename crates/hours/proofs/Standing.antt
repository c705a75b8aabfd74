-- Powers of a series that stand in a part.
use Rattle.std.proofs.Common.{◌≡◌, ℕ, ◌+◌, ◌<◌, true, ◌&&◌, List, length, mul-le-mul_left, arith, leb-true}
use Rattle.rules.specs.declared.Series.{Series}
use Rattle.laws.proofs.Range.{both}
use Rattle.hours.specs.Series.{stands, Stands}

module _ (part : List ℕ) where
  -- Where so many powers stand, so does each of them.
  pub each_stands : (x : Series) {n : ℕ} → stands (length part) x n ≡ true
      → {i : ℕ} → i < n → Stands part x (i + 1)
  unfolding stands
  each_stands x e l = omega (arith, leb-true _ _ e, mul-le-mul_left x.step l)

  -- So of two series.
  pub both_stand : (x y : Series) {n : ℕ} → (stands (length part) x n && stands (length part) y n) ≡ true
      → {i : ℕ} → i < n → Stands part x (i + 1) × Stands part y (i + 1)
  both_stand x y e l = let two = both _ _ e in (each_stands x two.0 l, each_stands y two.1 l)
