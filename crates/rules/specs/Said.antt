-- The answer, as document 01 numbers it.
use Rattle.std.specs.Prelude.{ℕ, Result}
use Rattle.rules.specs.Outcome.{Outcome, refused, written}
use Rattle.rules.specs.declared.Refusal.{Refusal}

-- The number of each refusal. [When a sheet is turned down; Requests, 1, 3 and 5]
abbrev pub number_of : Refusal → ℕ
number_of Refusal.NoHeader = 1
number_of Refusal.WrongLength = 2
number_of Refusal.UnknownVersion = 3
number_of Refusal.NoSuchMonth = 4
number_of Refusal.TooManyRecords = 5
number_of Refusal.UnexpectedLength = 6
number_of Refusal.NoRoom = 7
number_of Refusal.ShareAboveOne = 8
number_of Refusal.AboveCeiling = 9
number_of Refusal.UnknownReference = 10
number_of Refusal.TooDear = 11
number_of Refusal.FactorOutOfRange = 12
number_of Refusal.BadList = 13
number_of Refusal.FiledLate = 14
number_of Refusal.Overdrawn = 15
number_of Refusal.BadRecord = 16
number_of Refusal.RecordAboveCeiling = 17
number_of Refusal.BadDays = 18

-- The number that a Result tells: that of its refusal, 0 where it has none.
abbrev pub number_or_none : {A : Type 0} → Result A Refusal → ℕ
number_or_none (Result.Ok _) = 0
number_or_none (Result.Err refusal) = number_of refusal

-- What an entry's Result says: a refusal with its number, or the count of bytes written.
abbrev pub said : Result ℕ Refusal → Outcome
said (Result.Ok count) = written count
said (Result.Err refusal) = refused (number_of refusal)
