-- Where the words of powers, joined, have no bit in the two front bytes, all powers are low, and none is above
-- the ceiling.
use mathlib.Core.Path.{◌≡◌, refl, sym, ap, ◌∙◌}
use mathlib.Core.Bool.{Bool, true, false, not, ◌||◌}
use mathlib.Core.List.{List}
use Prim.Native.Nat.{ℕ, ◌+◌, ◌-◌, ◌*◌, ◌/◌, ◌%◌, ◌<◌, ◌≤◌}
use native.Mathlib.Omega.{arith}
use borrow.Author.Tests.{ltb-false, le-ltb, lt-ltb}
use lib.Dec.{ltb, eqb}
use lib.ListN.{get_or, length}
use Rattle.std.specs.Int.Bits.{bit_or, or_add_and}
use Rattle.std.proofs.lemmas.Nat.{or_mod, le_or_l, le_or_r}
use Rattle.std.proofs.lemmas.Bool.Decides.{nat_tests}
use Rattle.rules.specs.Range.{any}
use Rattle.rules.specs.Fields.{big_endian}
use Rattle.rules.specs.Refusals.{too_high}
use Rattle.laws.proofs.Range.{any_append, any_same, any_clear, any_none}
use Rattle.refusals_powers.specs.Powers.{high_powers, front_power, front_from, all_low}

-- Two numbers, joined, have a bit in the two lowest bytes where one of them has.
pub front_joined : (a b : ℕ) → ltb 0 (bit_or a b % 65536) ≡ (ltb 0 (a % 65536) || ltb 0 (b % 65536))
front_joined a b =
    let x = a % 65536 in
    let y = b % 65536 in
    let all = or_mod a b 16 in
    let sum = or_add_and x y in
    let from_x = le_or_l x y in
    let from_y = le_or_r x y in
    grind (arith, nat_tests, all, sum, from_x, from_y)

-- No bit is there where the number is 0.
pub none_there : (x : ℕ) → eqb (x % 65536) 0 ≡ not (ltb 0 (x % 65536))
none_there x = grind (arith, nat_tests)

-- And some bit where it is not.
pub one_there : (x : ℕ) → (x % 65536 ≡ 0 → ⊥) → ltb 0 (x % 65536) ≡ true
one_there x n = lt-ltb 0 (x % 65536) (omega (arith, n))

-- A power of the bytes a, b, c, d is above 65,535 where its word has a bit there.
power_front : (a b c d : ℕ) → a < 256 → b < 256 → c < 256 → d < 256
    → ltb 0 ((a + b * 256 + c * 65536 + d * 16777216) % 65536)
    ≡ ltb 65535 (((a * 256 + b) * 256 + c) * 256 + d)
power_front a b c d la lb lc ld = grind (arith, nat_tests)

-- Such a power at a place.
pub word_front : (s : List ℕ) (at : ℕ) → ((i : ℕ) → get_or s i 0 < 256)
    → ltb 0 ((get_or s at 0 + get_or s (at + 1) 0 * 256 + get_or s (at + 2) 0 * 65536
    + get_or s (at + 3) 0 * 16777216) % 65536)
    ≡ ltb 65535 (big_endian 4 s at)
unfolding big_endian
word_front s at byte =
    let front = power_front _ _ _ _ (byte at) (byte (at + 1)) (byte (at + 2)) (byte (at + 3)) in
    grind (arith, nat_tests, front)

-- One of the first m powers is above it, or one of the n after them.
pub more_front : (s : List ℕ) (at m n : ℕ) {all : ℕ} {x y : Bool} → at ≡ 4 * m → all ≡ m + n
    → x ≡ any (front_power s) m → y ≡ front_from s at n → (x || y) ≡ any (front_power s) all
more_front s at m n e f x y =
    let same : front_from s at n ≡ any (λ i. front_power s (m + i)) n =
    any_same _ _ n (λ i l. ap (λ (k : ℕ). ltb 65535 (big_endian 4 s k)) (omega arith)) in
    rw (x, y, same, f) (sym (any_append (front_power s) m n))

-- One of all powers is above it where one of the first m is.
pub some_front : (s : List ℕ) (m : ℕ) {n : ℕ} → m ≤ n → any (front_power s) m ≡ true
    → any (front_power s) n ≡ true
some_front s m {n} l e =
    let rest : m + (n - m) ≡ n = omega arith in
    ap (any (front_power s)) (sym rest) ∙ any_append (front_power s) m (n - m) ∙ rw e refl

-- Low powers are not above the ceiling.
pub low_high : (s : List ℕ) → all_low s ≡ true → high_powers s ≡ false
unfolding all_low high_powers too_high
low_high s low =
    any_none _ _ (λ i l.
    let fits = ltb-false 65535 (big_endian 4 s (4 * i)) (any_clear (front_power s) (length s / 4) (none _ low) i l) in
    le-ltb 100000 _ (omega (arith, fits)))
  where
    none : (b : Bool) → not b ≡ true → b ≡ false
    none true e = sym e
    none false e = refl
