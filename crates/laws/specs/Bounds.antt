-- Bounds that contracts name.
use Rattle.std.specs.Prelude.{ℕ}

-- The largest number that four bytes hold.
abbrev pub most_word : ℕ
most_word = 4294967295
