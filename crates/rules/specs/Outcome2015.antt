-- What is answered and what is left behind under the text of 2015, for every sheet and every result buffer.
-- The numbers are those of the settlement, but 7 asks for the room of this result. [Requests, 4, throughout]
use Rattle.std.specs.Prelude.{ℕ, ◌≡◌, List, length}
use Rattle.rules.specs.Fields.{over}
use Rattle.rules.specs.Sheet.{header_of, month_of}
use Rattle.rules.specs.Refusals.{Test, tests_for, first_of}
use Rattle.rules.specs.Limits.{LimitsFor}
use Rattle.rules.specs.Outcome.{Outcome, answered, lent_after}
use Rattle.rules.specs.Result2015.{length_2015, result_2015}

-- All numbers in their order, for a result buffer of so many bytes.
unfoldable pub tests_2015 : List ℕ → ℕ → List Test
tests_2015 s room = tests_for (length_2015 (header_of s)) s room

-- The number that a sheet is refused with, 0 where it is accepted.
unfoldable pub refusal_2015 : List ℕ → ℕ → ℕ
refusal_2015 s room = first_of (tests_2015 s room)

-- No number applies to the sheet.
abbrev pub Accepted2015 : List ℕ → ℕ → Type 0
Accepted2015 s room = refusal_2015 s room ≡ 0

-- The limits that an accepted sheet keeps to, each by name.
abbrev pub Limits2015 : List ℕ → ℕ → Type 0
Limits2015 s room = LimitsFor (length_2015 (header_of s)) s room

-- What a sheet is answered: the first number that applies, or the length of its result.
unfoldable pub outcome_2015 : List ℕ → ℕ → Outcome
outcome_2015 s room = answered (refusal_2015 s room) (length_2015 (header_of s))

-- The result buffer afterwards: the result from its beginning, and past it what was there; after a refusal
-- all of what was there.
unfoldable pub buffer_after_2015 : List ℕ → List ℕ → List ℕ
buffer_after_2015 s out = lent_after (refusal_2015 s (length out)) (over (result_2015 (month_of s)) out) out
