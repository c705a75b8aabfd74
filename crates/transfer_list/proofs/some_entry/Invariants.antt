use Rattle.std.proofs.Common.{◌≡◌, Bool, false}
use Rattle.rules.specs.declared.Transfer.{Transfer}
use Rattle.rules.specs.Range.{any}
use Rattle.rules.specs.TransferList.{entry}
use Rattle.transfer_list.proofs.some_entry.Given as goal

abbrev pub invariant-loop-i : goal.invariant-loop-i
invariant-loop-i g l =
    (P : Transfer → Bool) → ((t : Transfer) → (b : Bool) → g.F.Fn.post l.test (t, tt) b → b ≡ P t)
    → any (λ i. P (entry l.list i)) l.i ≡ false
