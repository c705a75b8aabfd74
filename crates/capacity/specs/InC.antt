-- The answer as a C caller gets it.
use Rattle.std.specs.Prelude.{ℕ, ℤ, pos, neg_ℤ}
use Rattle.rules.specs.Outcome.{Outcome, refused, written}

-- In C one number: the count, or minus the refusal's number.
abbrev pub in_c : Outcome → ℤ
in_c (refused number) = neg_ℤ (pos number)
in_c (written count) = pos count

-- The count, and 0 for a refusal.
abbrev pub counted : Outcome → ℕ
counted (refused number) = 0
counted (written count) = count

-- A count below this one is a signed number of 64 bits too.
abbrev pub count_end : ℕ
count_end = 9223372036854775808
