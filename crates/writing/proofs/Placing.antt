-- What a writer leaves, where its part is too short and where it is not; a figure's bytes. Assumes nothing.
use Rattle.std.proofs.Common.{◌≡◌, ℕ, ◌+◌, ◌/◌, ◌%◌, ◌≤◌, ◌<◌, List, [], ◌∷◌, length, arith}
use Rattle.std.proofs.Math.Nat.{div-div-eq-div-mul}
use Rattle.std.specs.Int.{w32, w64, to_be_bytes}
use borrow.Author.Tests.{lt-ltb, le-ltb}
use Rattle.rules.specs.Fields.{over, over_at, bytes_of}
use Rattle.writing.specs.Placed.{placed, placed_at}

pub placed_not : (p part : List ℕ) → length part < length p → placed p part ≡ part
unfolding placed
placed_not p part h = rw (lt-ltb _ _ h)

pub placed_over : (p part : List ℕ) → length p ≤ length part → placed p part ≡ over p part
unfolding placed
placed_over p part h = rw (le-ltb _ _ h)

-- What put leaves of a part that has room for p from a place on.
pub placed_at_over : (at : ℕ) (p part : List ℕ) → at + length p ≤ length part
    → placed_at at p part ≡ over_at at p part
placed_at_over at p part h = rw (le-ltb _ _ h)

-- The bytes that std's to_be_bytes gives are those of the figure, and a byte is its own field.
pub to_be_bytes-w32 : (v : ℕ) → to_be_bytes w32 v ≡ bytes_of 4 v
unfolding bytes_of
to_be_bytes-w32 v = simp div-div-eq-div-mul

pub to_be_bytes-w64 : (v : ℕ) → to_be_bytes w64 v ≡ bytes_of 8 v
unfolding bytes_of
to_be_bytes-w64 v = simp div-div-eq-div-mul

pub one_byte : (v : ℕ) → v < 256 → v ∷ [] ≡ bytes_of 1 v
unfolding bytes_of
one_byte v small = let e : v % 256 ≡ v = omega arith in rw e

-- The last four bytes of a number are those of what it leaves over 2 ^ 32.
pub last_four_bytes : (v : ℕ) → to_be_bytes w32 (v % 4294967296) ≡ bytes_of 4 v
unfolding bytes_of
last_four_bytes v =
    let a : v % 4294967296 / 16777216 % 256 ≡ v / 256 / 256 / 256 % 256 = omega arith in
    let b : v % 4294967296 / 65536 % 256 ≡ v / 256 / 256 % 256 = omega arith in
    let c : v % 4294967296 / 256 % 256 ≡ v / 256 % 256 = omega arith in
    let d : v % 4294967296 % 256 ≡ v % 256 = omega arith in
    rw (a, b, c, d)
