-- What is answered and what is left behind, for every sheet and every result buffer.
use Rattle.std.specs.Prelude.{ℕ, ◌≡◌, cond, ◌&&◌, List, length, take, drop, eqb, ltb}
use Rattle.rules.specs.Fields.{over}
use Rattle.rules.specs.Sheet.{header_of, layout_of, month_of, hours_at, hours_width}
use Rattle.rules.specs.Result.{result_length, result_of}
use Rattle.rules.specs.Refusals.{form_tests, first_of, refusal}

-- The answer: a refusal with its number, or the count of bytes written. [When a sheet is turned down]
pub data Outcome : Type 0 where
  refused : ℕ → Outcome
  written : ℕ → Outcome

-- No number applies to the sheet, with a result buffer of so many bytes. [When a sheet is turned down]
abbrev pub Accepted : List ℕ → ℕ → Type 0
Accepted s room = refusal s room ≡ 0

-- An entry's answer: the first number that applies, or where none does (0) a count of bytes. [When a sheet is
-- turned down]
unfoldable pub answered : ℕ → ℕ → Outcome
answered number count = cond (eqb number 0) (written count) (refused number)

-- A lent buffer after an entry: what the entry makes of it; after a refusal what was there. [When a sheet is
-- turned down]
unfoldable pub lent_after : ℕ → List ℕ → List ℕ → List ℕ
lent_after number changed before = cond (eqb number 0) changed before

-- What a sheet is answered: the first number that applies, or the length of its result. [Result; When a sheet
-- is turned down]
unfoldable pub outcome : List ℕ → ℕ → Outcome
outcome s room = answered (refusal s room) (result_length (header_of s))

-- The result buffer afterwards: the result from its beginning, and past it what was there; after a refusal
-- all of what was there. [Result; When a sheet is turned down]
unfoldable pub buffer_after : List ℕ → List ℕ → List ℕ
buffer_after s out = lent_after (refusal s (length out)) (over (result_of (month_of s)) out) out

-- A stretch of a sheet: its place and its length. [Units and the sheet]
pub record Stretch : Type 0 where
  pub place : ℕ
  pub bytes : ℕ

-- The stretch with the hours of producer p. It is empty where a number from 1 to 6 applies, and where the
-- sheet has no producer p. [Units and the sheet]
unfoldable pub hours_stretch : List ℕ → ℕ → Stretch
hours_stretch s p =
    cond (eqb (first_of (form_tests s)) 0 && ltb p (header_of s).producers)
    (record { place = hours_at (layout_of s) p; bytes = hours_width (header_of s) })
    (record { place = 0; bytes = 0 })

-- The bytes of the sheet in a stretch. [Units and the sheet]
unfoldable pub within : Stretch → List ℕ → List ℕ
within part s = take part.bytes (drop part.place s)
