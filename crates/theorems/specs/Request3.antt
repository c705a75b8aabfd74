-- Request 3 as statements: what the record of an industrial complex leaves of a sheet and of its result.
-- [Requests, 3]
use Rattle.std.specs.Prelude.{ℕ, ◌+◌, ◌≤◌, ◌<◌, ◌≡◌, List, length, get_or}
use Rattle.rules.specs.declared.Header.{Header}
use Rattle.rules.specs.Month.{hours}
use Rattle.rules.specs.Sheet.{layout_of, peak_at}
use Rattle.rules.specs.Result.{read_row, read_consumer, read_totals}
use Rattle.rules.specs.Outcome.{Accepted}
use Rattle.rules.specs.ComplexRecord.{complex, imported, drawn, sent}

-- The byte at a place does not belong to consumer c's peak: it stands before it, or past its four bytes.
abbrev pub OutsidePeak : List ℕ → ℕ → ℕ → Type 0
OutsidePeak s c i = peak_at (layout_of s) c ≤ i → peak_at (layout_of s) c + 4 ≤ i

-- The second sheet is the first but for consumer c's peak, and is accepted wherever the first is.
pub record OnlyPeak (c : ℕ) (s t : List ℕ) : Type 0 where
  pub as_long : length t ≡ length s
  pub kept : (i : ℕ) → OutsidePeak s c i → get_or t i 0 ≡ get_or s i 0
  pub stays_accepted : (room : ℕ) → Accepted s room → Accepted t room

-- Two records for a month, alike but for powers drawn that are higher in the second, or the same.
pub record HigherDrawn (h : Header) (r r' : List ℕ) : Type 0 where
  pub complex : complex r' ≡ complex r
  pub imported : imported r' ≡ imported r
  pub drawn : (i : ℕ) → i < hours h → drawn r i ≤ drawn r' i
  pub sent : (i : ℕ) → i < hours h → sent r' i ≡ sent r i

-- The second result has the lines of the first in every row and for every consumer but c, and pays the same
-- in all. Each figure is the one that is read from the result's bytes at its place.
pub record OnlyLine (h : Header) (c : ℕ) (out out' : List ℕ) : Type 0 where
  pub row : (j : ℕ) → j < h.rows → read_row out' j ≡ read_row out j
  pub consumer : (k : ℕ) → k < h.consumers → (k ≡ c → ⊥) → read_consumer h out' k ≡ read_consumer h out k
  pub paid : (read_totals h out').paid ≡ (read_totals h out).paid

-- The second result has no lower volume and no lower charge for consumer c, and no lower total charged.
pub record NoLower (h : Header) (c : ℕ) (out out' : List ℕ) : Type 0 where
  pub volume : (read_consumer h out c).volume ≤ (read_consumer h out' c).volume
  pub charge : (read_consumer h out c).charge ≤ (read_consumer h out' c).charge
  pub total_charged : (read_totals h out).charged ≤ (read_totals h out').charged
