-- Sums in 32 bits: past them a sum begins again at 0; of few small numbers it is exact.
use Rattle.std.proofs.Common.{◌≡◌, ℕ, ◌+◌, ◌%◌, ◌^◌, ◌<◌, ◌≤◌, arith}
use Rattle.std.proofs.Math.Nat.{mod-add-mod}
use Rattle.rules.specs.Range.{sum}
use Rattle.laws.proofs.Range.{sum_more, sum-le}

pub sum_wrapped : (f : ℕ → ℕ) (i : ℕ) {acc v next : ℕ} → acc ≡ sum f i % 2 ^ 32 → v ≡ f i
    → next ≡ (acc + v) % 2 ^ 32 → next ≡ sum f (i + 1) % 2 ^ 32
sum_wrapped f i a v n = rw (n, a, v, sum_more f i) (mod-add-mod _ _ _)

pub sum_exact : (f : ℕ → ℕ) (n : ℕ) {r : ℕ} → n ≤ 744 → ((i : ℕ) → i < n → f i ≤ 100000)
    → r ≡ sum f n % 2 ^ 32 → r ≡ sum f n
sum_exact f n le each e = omega (arith, sum-le f 100000 n each)
