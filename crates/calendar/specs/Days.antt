-- Days of a month as bits of a number.
use Rattle.std.specs.Prelude.{ℕ, ◌/◌, ◌%◌, ◌^◌, Bool, eqb}

-- The bit of a day, counted from 0, is set; the lowest bit is day 0's.
unfoldable pub day_on : ℕ → ℕ → Bool
day_on on day = eqb (on / 2 ^ day % 2) 1
