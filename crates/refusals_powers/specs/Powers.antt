-- Numbers 9 and 17 of powers that stand one after the other, four bytes each.
use Rattle.std.specs.Prelude.{ℕ, ◌+◌, ◌*◌, ◌/◌, Bool, not, ltb, List, length}
use Rattle.rules.specs.Range.{any}
use Rattle.rules.specs.Fields.{big_endian}
use Rattle.rules.specs.Refusals.{too_high}

-- Power i of a part is above the ceiling.
abbrev pub high_power : List ℕ → ℕ → Bool
high_power s i = too_high (big_endian 4 s (4 * i))

-- Some power of a part is. Bytes past the last whole power are none.
unfoldable pub high_powers : List ℕ → Bool
high_powers s = any (high_power s) (length s / 4)

-- Some power of so many from a place on is above the ceiling.
abbrev pub high_from : List ℕ → ℕ → ℕ → Bool
high_from s at count = any (λ i. too_high (big_endian 4 s (at + 4 * i))) count

-- Power i of a part is above 65,535: it has a bit in its two front bytes.
abbrev pub front_power : List ℕ → ℕ → Bool
front_power s i = ltb 65535 (big_endian 4 s (4 * i))

-- No power of a part is.
unfoldable pub all_low : List ℕ → Bool
all_low s = not (any (front_power s) (length s / 4))

-- Some power of so many from a place on is.
abbrev pub front_from : List ℕ → ℕ → ℕ → Bool
front_from s at count = any (λ i. ltb 65535 (big_endian 4 s (at + 4 * i))) count
