-- What a refusal's number says: it is not 0, so it stands before the tests that follow those it was found by.
use Rattle.std.proofs.Common.{◌≡◌, ℕ, ◌≤◌, List, ◌++◌, length, sym, ◌∙◌, arith}
use lib.Dec.{T}
use Rattle.rules.specs.declared.Refusal.{Refusal}
use Rattle.rules.specs.Sheet.{length_field, layout_of}
use Rattle.rules.specs.Refusals.{Test, first_of, front_tests, header_tests, form_tests}
use Rattle.rules.specs.Said.{number_of}
use Rattle.laws.proofs.Refusals.{numbered, first_stands, first_next, front_numbered}

pub from_one : (refusal : Refusal) → 1 ≤ number_of refusal
from_one Refusal.NoHeader = omega arith
from_one Refusal.WrongLength = omega arith
from_one Refusal.UnknownVersion = omega arith
from_one Refusal.NoSuchMonth = omega arith
from_one Refusal.TooManyRecords = omega arith
from_one Refusal.UnexpectedLength = omega arith
from_one Refusal.NoRoom = omega arith
from_one Refusal.ShareAboveOne = omega arith
from_one Refusal.AboveCeiling = omega arith
from_one Refusal.UnknownReference = omega arith
from_one Refusal.TooDear = omega arith
from_one Refusal.FactorOutOfRange = omega arith
from_one Refusal.BadList = omega arith
from_one Refusal.FiledLate = omega arith
from_one Refusal.Overdrawn = omega arith
from_one Refusal.BadRecord = omega arith
from_one Refusal.RecordAboveCeiling = omega arith
from_one Refusal.BadDays = omega arith

-- Two lists of tests, the one tried before the other: what the first refuses, and what the second finds where
-- the first does not.
module _ (xs ys : List Test) (told : T (numbered xs)) where
  pub first_refuses : (refusal : Refusal) → number_of refusal ≡ first_of xs
      → number_of refusal ≡ first_of (xs ++ ys)
  first_refuses refusal e = e ∙ first_stands xs ys told (λ z. omega (arith, from_one refusal, e, z))

  pub second_finds : {number : ℕ} → 0 ≡ first_of xs → number ≡ first_of ys → number ≡ first_of (xs ++ ys)
  second_finds none e = e ∙ first_next xs ys told (sym none)

-- The form's tests are those of the front, then those of the header.
module _ (s : List ℕ) where
  pub front_refuses : (refusal : Refusal) → number_of refusal ≡ first_of (front_tests s)
      → first_of (form_tests s) ≡ number_of refusal
  unfolding form_tests
  front_refuses refusal e = sym (first_refuses (front_tests s) _ (front_numbered s) refusal e)

  pub header_finds : (number : ℕ) → 0 ≡ first_of (front_tests s) → length_field s ≡ length s
      → number ≡ first_of (header_tests (layout_of s) (length s)) → first_of (form_tests s) ≡ number
  unfolding form_tests
  header_finds number none told e = rw told (sym (second_finds (front_tests s) _ (front_numbered s) none e))
