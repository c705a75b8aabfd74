-- Request 7 as a statement: two sheets, with a result buffer each, give equal results or the same refusal.
-- [Requests, 7]
use Rattle.std.specs.Prelude.{ℕ, ◌≡◌, List, length, take}
use Rattle.rules.specs.Sheet.{header_of}
use Rattle.rules.specs.Result.{result_length}
use Rattle.rules.specs.Outcome.{Accepted, outcome, buffer_after}

-- One answer to both; where the sheets are accepted, the same result in front of both buffers; where they are
-- not, both buffers as they were.
pub record EqualResults (s s' out out' : List ℕ) : Type 0 where
  pub answer : outcome s' (length out') ≡ outcome s (length out)
  pub result : Accepted s (length out) → take (result_length (header_of s)) (buffer_after s' out') ≡ take (result_length (header_of s)) (buffer_after s out)
  pub kept : (Accepted s (length out) → ⊥) → (buffer_after s out ≡ out) × (buffer_after s' out' ≡ out')
