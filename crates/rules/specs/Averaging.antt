-- Industrial complexes: a consumer's peak, taken by averaging from the complex's record and written into a
-- sheet. [Requests, 3, throughout; source document 002, p. 2; a number stands before each of its tests]
use Rattle.std.specs.Prelude.{ℕ, ◌-◌, Bool, not, cond, List, [], ◌∷◌, ◌++◌, length, leb, ltb, eqb}
use Rattle.rules.specs.Range.{any}
use Rattle.rules.specs.Month.{Header, Consumer, Month, hours, with_consumers}
use Rattle.rules.specs.Units.{tenth}
use Rattle.rules.specs.ControlHours.{control_average}
use Rattle.rules.specs.Sheet.{header_of, layout_of, with_peak}
use Rattle.rules.specs.Refusals.{one_of, too_high, Test, test, sheet_tests, first_of}
use Rattle.rules.specs.Outcome.{Outcome, answered, lent_after}
use Rattle.rules.specs.ComplexRecord.{
  record_front,
  record_width,
  record_length,
  complex,
  imported,
  drawn,
  sent,
}

-- 16: no whole front; a length field that is wrong about the bytes, or is not the one that the month asks
-- for; no such consumer.
unfoldable pub bad_record : Header → List ℕ → Bool
bad_record h r =
    one_of
    (ltb (length r) record_front
    ∷ not (eqb (record_length r) (length r))
    ∷ not (eqb (record_length r) (record_width h))
    ∷ leb h.consumers (complex r)
    ∷ [])

-- 17, in an hour: a power exceeds the ceiling of tenths.
unfoldable pub high_at : List ℕ → ℕ → Bool
high_at r hour = one_of (too_high (drawn r hour) ∷ too_high (sent r hour) ∷ [])

-- 17, in the record: imported power is a power too.
unfoldable pub high_record : Header → List ℕ → Bool
high_record h r = one_of (too_high (imported r) ∷ any (high_at r) (hours h) ∷ [])

-- Net power in an hour: drawn less sent out, not below 0.
unfoldable pub net : List ℕ → ℕ → ℕ
net r hour = drawn r hour - sent r hour

-- The peak: the control average of net power, rounded once, to a tenth, less imported power, not below 0.
-- Without a control day the average is 0, and so is the peak. [Control hours; Requests, 6]
unfoldable pub complex_peak : Header → List ℕ → ℕ
complex_peak h r = control_average tenth h (net r) - imported r

-- 16, then 17, for a sheet with this header.
unfoldable pub record_tests : Header → List ℕ → List Test
record_tests h r = test 16 (bad_record h r) ∷ test 17 (high_record h r) ∷ []

-- All numbers in their order: the sheet's own, all but 7, and then the record's.
unfoldable pub average_tests : List ℕ → List ℕ → List Test
average_tests s r = sheet_tests s ++ record_tests (header_of s) r

-- The number that a sheet and a record are refused with, 0 where the peak is written.
unfoldable pub average_refusal : List ℕ → List ℕ → ℕ
average_refusal s r = first_of (average_tests s r)

-- What is answered.
unfoldable pub average_outcome : List ℕ → List ℕ → Outcome
average_outcome s r = answered (average_refusal s r) 0

-- The sheet with the complex's peak in that consumer's field.
unfoldable pub peak_written : List ℕ → List ℕ → List ℕ
peak_written s r = with_peak (layout_of s) (complex r) (complex_peak (header_of s) r) s

-- The sheet afterwards: with that peak; after a refusal as it was.
unfoldable pub averaged : List ℕ → List ℕ → List ℕ
averaged s r = lent_after (average_refusal s r) (peak_written s r) s

-- A consumer with another peak.
abbrev pub at_peak : Consumer → ℕ → Consumer
at_peak k peak =
    record {
      contract = k.contract;
      peak = peak;
      supplier = k.supplier;
      grid = k.grid;
      z = k.z;
      price = k.price;
    }

-- The month with another peak of consumer c.
abbrev pub with_peak_of : Month → ℕ → ℕ → Month
with_peak_of m c peak = with_consumers m (λ k. cond (eqb k c) (at_peak (m.consumer k) peak) (m.consumer k))
