use Rattle.std.proofs.Common.{◌≡◌, false}
use Rattle.rules.specs.Range.{any}
use Rattle.rules.specs.Transfers.{after_entries, overdrawn_at}
use Rattle.laws.proofs.Arrays.{Agrees}
use Rattle.units.specs.Sums.{tenths}
use Rattle.transfers.specs.Held.{read}
use Rattle.transfers.proofs.contracts.Volumes.apply.Given as goal

abbrev pub invariant-loop-i : goal.invariant-loop-i
invariant-loop-i l =
    Agrees 32 (tenths 0) (λ c. tenths (after_entries (read l.initial.self) l.list l.i c)) l.self.of
    × (any (overdrawn_at (read l.initial.self) l.list) l.i ≡ false)
