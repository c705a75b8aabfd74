use Rattle.std.proofs.Common.{◌≡◌, ◌<◌, ℕ, Bool, false}
use Rattle.rules.specs.Range.{any}
use Rattle.refusals_sheet.proofs.some.Given as goal

-- No place so far passes, whatever the test tells.
abbrev pub invariant-loop-i : goal.invariant-loop-i
invariant-loop-i g l =
    (P : ℕ → Bool) → ((i : ℕ) → i < l.count → (b : Bool) → g.F.Fn.post l.test (i, tt) b → b ≡ P i)
    → any P l.i ≡ false
