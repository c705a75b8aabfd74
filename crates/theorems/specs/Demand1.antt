-- Demand 1 as a statement: which number a refusal is. That acceptance is exactly the limits of Limits is
-- proved of them as they stand there.
use Rattle.std.specs.Prelude.{ℕ, ◌≡◌, true, false, cond, List, [], ◌∷◌, eqb}
use Rattle.rules.specs.Refusals.{Test, applies}

-- The tests of a list that stand before the one with a number.
unfoldable pub before : ℕ → List Test → List Test
before n [] = []
before n (t ∷ ts) = cond (eqb t.number n) [] (t ∷ before n ts)

-- Test n applies, and none that is tried before it does.
pub record First (ts : List Test) (n : ℕ) : Type 0 where
  pub it_applies : applies n ts ≡ true
  pub none_before : (k : ℕ) → applies k (before n ts) ≡ false
