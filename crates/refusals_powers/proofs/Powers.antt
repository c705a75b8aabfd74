-- Number 9 of the powers in a stretch of bytes, and of the larger of two. Assumes nothing.
use mathlib.Core.Path.{◌≡◌, ap}
use mathlib.Core.Bool.{false, ◌||◌}
use mathlib.Core.List.{List}
use Prim.Native.Nat.{ℕ, ◌+◌, ◌*◌, ◌/◌, ◌≤◌, ◌<◌}
use native.Mathlib.Omega.{arith}
use lib.ListN.{length, take, drop, length-take, length-drop}
use borrow.Author.Tests.{ltb-false}
use Rattle.std.proofs.Common.{max}
use Rattle.std.proofs.lemmas.Bool.Decides.{nat_tests}
use Rattle.rules.specs.Fields.{big_endian}
use Rattle.rules.specs.Refusals.{too_high}
use Rattle.laws.proofs.Range.{any_same, any_clear}
use Rattle.laws.proofs.Fields.{read_part}
use Rattle.refusals_powers.specs.Powers.{high_power, high_powers, high_from}

-- The larger of two numbers is above the ceiling where one of them is.
pub high_max : (a b : ℕ) → too_high (max a b) ≡ (too_high a || too_high b)
unfolding too_high
high_max a b = grind (arith, nat_tests)

-- The powers of the n bytes from a place on.
pub part_high : (s : List ℕ) (at n count : ℕ) → n ≡ 4 * count → at + n ≤ length s
    → high_powers (take n (drop at s)) ≡ high_from s at count
unfolding high_powers
part_high s at n count e fits =
    let whole : length (take n (drop at s)) / 4 ≡ count = simp (length-take, length-drop) (omega arith) in
    rw whole (any_same _ _ count (λ i l. ap too_high (read_part 4 n at (4 * i) s (omega arith))))

-- Each power of a part without one above the ceiling is within it.
pub each_within : (s : List ℕ) → high_powers s ≡ false → (j : ℕ) → j < length s / 4
    → big_endian 4 s (4 * j) ≤ 100000
unfolding high_powers too_high
each_within s none j l =
    ltb-false 100000 (big_endian 4 s (4 * j)) (any_clear (high_power s) (length s / 4) none j l)
