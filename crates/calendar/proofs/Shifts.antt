-- A number of 32 bits has none past them. Assumes nothing.
use mathlib.Core.Path.{◌≡◌}
use Prim.Native.Nat.{ℕ, ◌/◌, ◌^◌, ◌≤◌, ◌<◌}
use native.Mathlib.Nat.{div-eq_of_lt, lt_of_lt_of_le}
use lib.Pow.{pow_mono}

pub shifted_out : (x k : ℕ) → x < 2 ^ 32 → 32 ≤ k → x / 2 ^ k ≡ 0
shifted_out x k p q = div-eq_of_lt {n = x} {m = 2 ^ k} (lt_of_lt_of_le p (pow_mono {i = 32} q))
