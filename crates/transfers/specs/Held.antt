-- Contract volumes in an array of 32.
use Rattle.std.specs.Prelude.{ℕ, ◌≤◌, ◌<◌, ◌≡◌, Bool, ◌||◌, List, ltb, length, get_or}
use Rattle.rules.specs.declared.Layout.{Layout}
use Rattle.rules.specs.Units.{tenths_ceiling}
use Rattle.rules.specs.Range.{listed}
use Rattle.rules.specs.Sheet.{month_under}
use Rattle.rules.specs.Refusals.{too_high}
use Rattle.rules.specs.Transfers.{contracts}
use Rattle.laws.proofs.Arrays.{filled}
use Rattle.units.specs.declared.Tenths.{Tenths}
use Rattle.units.specs.Sums.{added, tenths}
use Rattle.transfers.specs.declared.contracts.Volumes.{Volumes}

-- The volumes v 0, .., v (n - 1), and 0 past them.
abbrev pub held : ℕ → (ℕ → ℕ) → Volumes
held n v = record { of = listed (filled (tenths 0) (λ c. tenths (v c)) n) 32 }

-- The contract volumes that a sheet states under a layout.
unfoldable pub stated_in : Layout → List ℕ → Volumes
stated_in l s = held l.header.consumers (contracts (month_under l s))

-- The volume of consumer c.
unfoldable pub read : Volumes → ℕ → ℕ
read x c = (get_or x.of c (tenths 0)).0

-- 32 volumes, none above the ceiling.
pub record Within (x : Volumes) : Type 0 where
  pub wide : length x.of ≡ 32
  pub each : (c : ℕ) → c < 32 → read x c ≤ tenths_ceiling

-- An amount cannot be moved where the giver has less, or the taker would have more than the ceiling.
abbrev pub unmet : Tenths → Tenths → Tenths → Bool
unmet giver taker amount = ltb giver.0 amount.0 || too_high (added taker.0 amount.0)
