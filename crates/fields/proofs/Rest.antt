-- The part of a slice from a place on, byte by byte. Assumes nothing.
use Rattle.std.proofs.Common.{◌≡◌, ◌∙◌, sym, ap, ℕ, ◌+◌, ◌-◌, ◌<◌, ◌≤◌, min, arith}
use Rattle.std.proofs.Common.{List, take, drop, length, get_or, drop_of_length-le}
use Rattle.std.proofs.lemmas.List.{get_or-drop, length-drop}
use Rattle.std.proofs.Math.Seq.{take_all}
use Rattle.std.proofs.lemmas.Bool.{cases_lt}
use Rattle.std.proofs.Math.Nat.{le_of_eq, add-zero, zero-add}
use Rattle.std.proofs.Math.Logic.{⊎_elim}
use Rattle.rules.specs.Fields.{big_endian}

-- The part from a place on, or from the end where the place lies past it.
rest_is : (s : List ℕ) (at m : ℕ) → m ≡ min at (length s) → take (length s - m) (drop m s) ≡ drop at s
rest_is s at m e =
    take_all (length s - m) (drop m s) (le_of_eq (length-drop m s))
    ∙ ⊎_elim
    (λ (past : length s < at).
    let is : m ≡ length s = omega arith in
    drop_of_length-le s (omega arith) ∙ sym (drop_of_length-le s (omega arith)))
    (λ (h : at ≤ length s). let is : m ≡ at = omega arith in ap (λ (k : ℕ). drop k s) is)
    (cases_lt (length s) at)

pub get_or-rest : (s : List ℕ) (at m : ℕ) → m ≡ min at (length s) → (i : ℕ)
    → get_or (take (length s - m) (drop m s)) i 0 ≡ get_or s (at + i) 0
get_or-rest s at m e i = ap (λ (p : List ℕ). get_or p i 0) (rest_is s at m e) ∙ get_or-drop at s i 0

pub byte-rest : (s : List ℕ) (at m : ℕ) → m ≡ min at (length s) → (i : ℕ)
    → big_endian 1 (take (length s - m) (drop m s)) i ≡ get_or s (at + i) 0
unfolding big_endian
byte-rest s at m e i = rw (zero-add, add-zero) (get_or-rest s at m e i)
