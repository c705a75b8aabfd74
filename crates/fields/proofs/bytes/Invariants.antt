-- The bytes so far are those from the place on.
use Rattle.std.proofs.Common.{◌≡◌, ◌+◌, ◌<◌, ℕ, get_or, length}
use Rattle.fields.proofs.bytes.Given as goal

abbrev pub invariant-loop-i : goal.invariant-loop-i
invariant-loop-i g l =
    (length l.found ≡ g.row.N) × ((k : ℕ) → k < l.i → get_or l.found k 0 ≡ get_or l.s (l.at + k) 0)
