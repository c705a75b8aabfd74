-- Request 5 as statements: sheets of versions 1 and 2 that state the same figures, and what they are
-- answered. [Requests, 5]
use Rattle.std.specs.Prelude.{ℕ, ◌<◌, ◌≡◌, List, length}
use Rattle.rules.specs.declared.Row.{Row}
use Rattle.rules.specs.Month.{hours}
use Rattle.rules.specs.Sheet.{version, header_of, month_of}
use Rattle.rules.specs.Outcome.{outcome, buffer_after}
use Rattle.rules.specs.Outcome2015.{outcome_2015, buffer_after_2015}
use Rattle.rules.specs.Transfers.{transfer_outcome}
use Rattle.rules.specs.Averaging.{average_outcome}
use Rattle.theorems.specs.Alike.{SameProducer}

-- The second row is the first, and states that it covers a month of so many days.
pub record FullRow (days : ℕ) (r r' : Row) : Type 0 where
  pub producer : r'.producer ≡ r.producer
  pub consumer : r'.consumer ≡ r.consumer
  pub volume : r'.volume ≡ r.volume
  pub price : r'.price ≡ r.price
  pub first : r'.first ≡ 1
  pub last : r'.last ≡ days

-- A sheet of version 1, and one of version 2 with the same figures, in which every row states that it covers
-- the month.
pub record FullRows (s s' : List ℕ) : Type 0 where
  pub version_1 : version s ≡ 1
  pub version_2 : version s' ≡ 2
  pub header : header_of s' ≡ header_of s
  pub producer : (p : ℕ) → p < (header_of s).producers
      → SameProducer (hours (header_of s)) ((month_of s).producer p) ((month_of s').producer p)
  pub row : (j : ℕ) → j < (header_of s).rows
      → FullRow (header_of s).days ((month_of s).row j) ((month_of s').row j)
  pub consumer : (c : ℕ) → c < (header_of s).consumers → (month_of s').consumer c ≡ (month_of s).consumer c

-- Two sheets get the same answer and leave every result buffer the same, under both texts; and every list of
-- transfers and every record of a complex gets the same answer with both.
pub record SameAnswers (s s' : List ℕ) : Type 0 where
  pub answer : (out : List ℕ) → outcome s' (length out) ≡ outcome s (length out)
  pub result : (out : List ℕ) → buffer_after s' out ≡ buffer_after s out
  pub answer_2015 : (out : List ℕ) → outcome_2015 s' (length out) ≡ outcome_2015 s (length out)
  pub result_2015 : (out : List ℕ) → buffer_after_2015 s' out ≡ buffer_after_2015 s out
  pub transfer : (list : List ℕ) → transfer_outcome s' list ≡ transfer_outcome s list
  pub average : (r : List ℕ) → average_outcome s' r ≡ average_outcome s r
