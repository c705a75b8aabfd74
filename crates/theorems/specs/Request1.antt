-- Request 1 as a statement: what a list of transfers leaves of a sheet. [Requests, 1]
use Rattle.std.specs.Prelude.{ℕ, ◌+◌, ◌≤◌, ◌<◌, ◌≡◌, List, length, get_or}
use Rattle.rules.specs.Range.{sum}
use Rattle.rules.specs.Sheet.{header_of, layout_of, month_of, contract_at}
use Rattle.rules.specs.Outcome.{Accepted}
use Rattle.rules.specs.Transfers.{contracts}

-- The sum of the contract volumes that a sheet states.
abbrev pub contract_sum : List ℕ → ℕ
contract_sum s = sum (contracts (month_of s)) (header_of s).consumers

-- The byte at a place belongs to no contract volume of the sheet: it stands before each one, or past its four
-- bytes.
abbrev pub OutsideContracts : List ℕ → ℕ → Type 0
OutsideContracts s i = (c : ℕ) → c < (header_of s).consumers → contract_at (layout_of s) c ≤ i → contract_at (layout_of s) c + 4 ≤ i

-- The second sheet is the first but for its contract volumes, and is accepted wherever the first is.
pub record OnlyContracts (s t : List ℕ) : Type 0 where
  pub as_long : length t ≡ length s
  pub kept : (i : ℕ) → OutsideContracts s i → get_or t i 0 ≡ get_or s i 0
  pub stays_accepted : (room : ℕ) → Accepted s room → Accepted t room
