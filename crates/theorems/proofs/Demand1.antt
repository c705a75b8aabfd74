-- Demand 1 of the definitions: the number of a refusal is that of the first test that applies. Assumes
-- nothing.
use mathlib.Core.Path.{◌≡◌, refl, sym, ◌∙◌}
use mathlib.Core.Bool.{Bool, true, false, not, cond, ◌||◌, ◌&&◌, true≢false}
use mathlib.Core.List.{List, [], ◌∷◌}
use Prim.Native.Nat.{ℕ}
use lib.Dec.{T, eqb}
use lib.Ieee.Fits.{and_l, and_r}
use borrow.Author.Tests.{eqb-true, eq-eqb}
use Rattle.rules.specs.Sheet.{header_of}
use Rattle.rules.specs.Result.{result_length}
use Rattle.rules.specs.Refusals.{
  Test,
  front_tests,
  header_tests,
  form_tests,
  room_tests,
  figure_tests,
  tests_for,
  tests,
  applies,
  first_of,
  refusal,
}
use Rattle.theorems.specs.Demand1.{before, First}

-- A number stands in a list; no number stands twice.
abbrev stands : ℕ → List Test → Bool
stands n [] = false
stands n (t ∷ ts) = eqb t.number n || stands n ts

abbrev distinct : List Test → Bool
distinct [] = true
distinct (t ∷ ts) = not (stands t.number ts) && distinct ts

first_stands : (ts : List Test) (n : ℕ) → first_of ts ≡ n → (n ≡ 0 → ⊥) → stands n ts ≡ true
unfolding first_of
first_stands [] n e p = absurd (p (sym e))
first_stands (t ∷ ts) n e p = go t.applies e (λ (q : first_of ts ≡ n). first_stands ts n q p)
  where
    or_yes : (b : Bool) → (b || true) ≡ true
    or_yes true = refl
    or_yes false = refl

    go : (b : Bool) → cond b t.number (first_of ts) ≡ n → (first_of ts ≡ n → stands n ts ≡ true)
        → (eqb t.number n || stands n ts) ≡ true
    go true q rest = rw (eq-eqb t.number n q)
    go false q rest = rw (rest q) (or_yes (eqb t.number n))

not_so : (b : Bool) → T (not b) → b ≡ false
not_so true t = absurd t
not_so false t = refl

neither : (b x : Bool) → x ≡ false → cond b false x ≡ false
neither true x e = refl
neither false x e = e

pub first : (ts : List Test) → T (distinct ts) → (n : ℕ) → first_of ts ≡ n → (n ≡ 0 → ⊥) → First ts n
unfolding first_of applies before
first [] d n e p = absurd (p (sym e))
first (t ∷ ts) d n e p = go t.applies refl e (λ (q : first_of ts ≡ n). first ts (and_r (not (stands t.number ts)) (distinct ts) d) n q p)
  where
    other : first_of ts ≡ n → (b : Bool) → eqb t.number n ≡ b → eqb t.number n ≡ false
    other q true same =
        absurd
        (true≢false
        (sym (first_stands ts n q p)
        ∙ (rw (eqb-true t.number n same) at (not_so (stands t.number ts) (and_l (not (stands t.number ts)) (distinct ts) d)))))
    other q false same = same

    go : (b : Bool) → t.applies ≡ b → cond b t.number (first_of ts) ≡ n → (first_of ts ≡ n → First ts n)
        → First (t ∷ ts) n
    go true a q rest =
        record { it_applies = rw (eq-eqb t.number n q) a; none_before = λ k. rw (eq-eqb t.number n q) }
    go false a q rest =
        record {
          it_applies = rw (other q (eqb t.number n) refl) (rest q).it_applies;
          none_before = λ k. rw (other q (eqb t.number n) refl, a) (neither (eqb t.number k) _ ((rest q).none_before k));
        }

-- A refusal with number n above 0: test n of the sheet applies, and none that is tried before it does.
pub first_for : (needed : ℕ) (s : List ℕ) (room n : ℕ) → first_of (tests_for needed s room) ≡ n → (n ≡ 0 → ⊥)
    → First (tests_for needed s room) n
first_for needed s room n e p =
    first (tests_for needed s room) (unfold tests_for front_tests header_tests form_tests room_tests figure_tests in tt) n e p

pub refused_first : (s : List ℕ) (room n : ℕ) → refusal s room ≡ n → (n ≡ 0 → ⊥) → First (tests s room) n
unfolding refusal tests
refused_first s room n e p = first_for (result_length (header_of s)) s room n e p
