-- The answer as one signed number for C. Assumes nothing.
use mathlib.Core.Path.{◌≡◌, refl, ap, ◌∙◌}
use mathlib.Core.Bool.{Bool, true, false, cond}
use mathlib.Core.List.{List}
use Prim.Native.Nat.{ℕ, zero, suc, ◌≤◌, ◌<◌}
use native.Mathlib.Nat.{le_trans}
use native.Mathlib.Omega.{arith}
use borrow.Author.Tests.{eqb-true}
use lib.Dec.{eqb}
use lib.IntN.{ℤ, pos, neg_ℤ, ◌-ℤ◌, +ℤ_idl}
use lib.Signed.{mag}
use mir.Syntax.{w64}
use mir.Val.{SFits, to_z, of_z}
use mir.Facts.{to_z-of_z, to_z_pos}
use Rattle.rules.specs.Sheet.{header_of, month_of}
use Rattle.rules.specs.Refusals.{refusal}
use Rattle.rules.specs.Result.{result_length}
use Rattle.rules.specs.Outcome.{Outcome, refused, written, answered, outcome}
use Rattle.rules.specs.Result2015.{length_2015}
use Rattle.rules.specs.Outcome2015.{tests_2015, refusal_2015, outcome_2015}
use Rattle.laws.proofs.Refusals.{limits, limits_for}
use Rattle.laws.proofs.Figures.{length_le}
use Rattle.laws.proofs.Text2015.{length_2015-le}
use Rattle.capacity.specs.InC.{in_c, counted, count_end}

-- Minus a byte's number fits, and so does a count below half of all numbers.
minus_fits : (n : ℕ) → n < 256 → SFits w64 (neg_ℤ (pos n))
minus_fits zero l = record { sfits = omega arith }
minus_fits (suc k) l = record { sfits = omega arith }

less : (n : ℕ) → n < 256 → pos 0 -ℤ to_z w64 n ≡ neg_ℤ (pos n)
less n l = +ℤ_idl (neg_ℤ (to_z w64 n)) ∙ ap neg_ℤ (to_z_pos w64 {n = n} (omega arith))

pub number_fits : (n : ℕ) → n < 256 → SFits w64 (pos 0 -ℤ to_z w64 n)
number_fits n l = rw (less n l) (minus_fits n l)

pub count_fits : (n : ℕ) → n < count_end → SFits w64 (pos n)
count_fits n l = record { sfits = omega arith }

-- What comes back is the answer's number.
pub number_back : (n : ℕ) → n < 256 → to_z w64 (of_z w64 (pos 0 -ℤ to_z w64 n)) ≡ in_c (refused n)
number_back n l = to_z-of_z {w = w64} (number_fits n l) ∙ less n l

pub count_back : (n : ℕ) → n < count_end → to_z w64 n ≡ in_c (written n)
count_back n l = to_z_pos w64 {n = n} (omega arith)

-- An entry may hand its answer over where its count is small; 1,333 is that of the largest result.
count_le : (number count : ℕ) → (number ≡ 0 → count ≤ 1333) → counted (answered number count) ≤ 1333
unfolding answered
count_le number count few = go (eqb number 0) refl
  where
    go : (b : Bool) → eqb number 0 ≡ b → counted (cond b (written count) (refused number)) ≤ 1333
    go true q = few (eqb-true _ _ q)
    go false q = omega arith

pub count_small : (number count : ℕ) → (number ≡ 0 → count ≤ 1333) → {o : Outcome} → o ≡ answered number count
    → counted o < count_end
count_small number count few e = omega (arith, ap counted e, count_le number count few)

-- A settlement's count, and that of an entry that writes no result.
pub settled_small : (s : List ℕ) (room : ℕ) {o : Outcome} → o ≡ outcome s room → counted o < count_end
unfolding outcome
settled_small s room e =
    count_small (refusal s room) (result_length (header_of s)) (λ z. length_le (month_of s) (limits s room z).month) e

pub settled_2015_small : (s : List ℕ) (room : ℕ) {o : Outcome} → o ≡ outcome_2015 s room
    → counted o < count_end
unfolding outcome_2015 refusal_2015 tests_2015
settled_2015_small s room e =
    count_small (refusal_2015 s room) (length_2015 (header_of s))
    (λ z. le_trans (length_2015-le (header_of s) (limits_for (length_2015 (header_of s)) s room z).form.header) (omega arith)) e

pub done_small : (number : ℕ) {o : Outcome} → o ≡ answered number 0 → counted o < count_end
done_small number e = count_small number 0 (λ z. omega arith) e

-- What an entry gets back is the outcome's number.
pub handed_on : {z : ℤ} {o p : Outcome} → mag z < count_end → z ≡ in_c o → o ≡ p
    → to_z w64 (of_z w64 z) ≡ in_c p
handed_on l e q = to_z-of_z {w = w64} (record { sfits = l }) ∙ e ∙ ap in_c q
