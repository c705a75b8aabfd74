-- Sums, tests and lists over the places below a count: how every section says "the sum over", "any", "only
-- where" and "for each".
use Rattle.std.specs.Prelude.{ℕ, zero, suc, ◌+◌, Bool, false, cond, ◌||◌, List, [], ◌∷◌}

-- f 0 + f 1 + .. + f (n - 1).
unfoldable pub sum : (ℕ → ℕ) → ℕ → ℕ
sum f zero = 0
sum f (suc n) = sum f n + f n

-- Some place below n passes the test.
unfoldable pub any : (ℕ → Bool) → ℕ → Bool
any test zero = false
any test (suc n) = any test n || test n

-- v where the test passes, otherwise nothing.
unfoldable pub when : Bool → ℕ → ℕ
when test v = cond test v 0

-- f 0, f 1, .., f (n - 1).
unfoldable pub listed : {A : Type 0} → (ℕ → A) → ℕ → List A
listed f zero = []
listed f (suc n) = f 0 ∷ listed (λ i. f (suc i)) n
