-- An array that agrees with a function at each of its places: when it is made, when one place is set, and as
-- another function. Assumes nothing.
use mathlib.Core.Path.{◌≡◌, refl, sym, ◌∙◌}
use mathlib.Core.Bool.{Bool, true, false, cond}
use mathlib.Core.List.{List, [], ◌∷◌}
use Prim.Native.Nat.{ℕ, zero, suc, zero-le, ◌+◌, ◌≤◌, ◌<◌}
use native.Mathlib.Omega.{arith}
use borrow.Author.Tests.{eqb-true, eqb-false, ltb-true, ltb-false, lt-ltb, le-ltb}
use lib.Dec.{eqb, ltb}
use lib.ListN.{length, get_or, set, replicate, length-set, length-replicate, get_or-replicate}
use lib.Seq.{get_or-set_same, get_or-set_other}
use Rattle.rules.specs.Range.{listed}

-- n elements, at each place what f gives; d is read past the end.
pub record Agrees {A : Type 0} (n : ℕ) (d : A) (f : ℕ → A) (xs : List A) : Type 0 where
  pub wide : length xs ≡ n
  pub each : (i : ℕ) → i < n → get_or xs i d ≡ f i

module _ {A : Type 0} (n : ℕ) (d : A) where
  pub agrees_as : {f g : ℕ → A} {xs : List A} → ((i : ℕ) → i < n → f i ≡ g i) → Agrees n d f xs
      → Agrees n d g xs
  agrees_as e k = record { wide = k.wide; each = λ i l. k.each i l ∙ e i l }

  pub agrees_filled : (x : A) {f : ℕ → A} → ((i : ℕ) → i < n → x ≡ f i) → Agrees n d f (replicate n x)
  agrees_filled x e =
      record { wide = length-replicate {A = A} n x; each = λ i l. get_or-replicate {A = A} n i x d l ∙ e i l }

  pub Agrees-set : {f g : ℕ → A} {xs : List A} (i : ℕ) {v : A} → i < n → v ≡ g i
      → ((j : ℕ) → j < n → (j ≡ i → ⊥) → f j ≡ g j) → Agrees n d f xs
      → Agrees n d g (set xs i v)
  Agrees-set {f} {g} {xs} i {v} b e other k = record { wide = length-set xs i v ∙ k.wide; each = λ j l. go j l (eqb j i) refl }
    where
      go : (j : ℕ) → j < n → (t : Bool) → eqb j i ≡ t → get_or (set xs i v) j d ≡ g j
      go j l true same = rw (eqb-true j i same) (get_or-set_same xs i v d (omega (arith, k.wide)) ∙ e)
      go j l false apart =
          let q = eqb-false j i apart in get_or-set_other xs i j v d q ∙ k.each j l ∙ other j l q

-- The array is then the list of what f gives, and the other way round.
same_listed : {A : Type 0} (d : A) (f : ℕ → A) (n : ℕ) (xs : List A) → length xs ≡ n
    → ((i : ℕ) → i < n → get_or xs i d ≡ f i) → xs ≡ listed f n
unfolding listed
same_listed d f zero [] e h = refl
same_listed d f zero (x ∷ xs) e h = absurd (omega (arith, e))
same_listed d f (suc n) [] e h = absurd (omega (arith, e))
same_listed d f (suc n) (x ∷ xs) e h =
    rw (
      h 0 (omega arith),
      same_listed d (λ i. f (suc i)) n xs (omega (arith, e)) (λ i l. h (suc i) (omega arith)),
    )

pub agrees_listed : {A : Type 0} {n : ℕ} {d : A} {f : ℕ → A} {xs : List A} → Agrees n d f xs → xs ≡ listed f n
agrees_listed {n = n} {d = d} {f = f} {xs = xs} k = same_listed d f n xs k.wide k.each

pub length-listed : {A : Type 0} (f : ℕ → A) (n : ℕ) → length (listed f n) ≡ n
unfolding listed
length-listed f zero = refl
length-listed f (suc n) = omega (arith, length-listed (λ i. f (suc i)) n)

pub get_or-listed : {A : Type 0} (d : A) (f : ℕ → A) (n i : ℕ) → i < n → get_or (listed f n) i d ≡ f i
unfolding listed
get_or-listed d f zero i l = absurd (omega arith)
get_or-listed d f (suc n) zero l = refl
get_or-listed d f (suc n) (suc i) l = get_or-listed d (λ j. f (suc j)) n i (omega arith)

pub listed_agrees : {A : Type 0} {n : ℕ} {d : A} {f : ℕ → A} {xs : List A} → xs ≡ listed f n → Agrees n d f xs
listed_agrees {n = n} {d = d} {f = f} e = rw e (record { wide = length-listed f n; each = get_or-listed d f n })

-- An array that is filled from its front on: the first k places are f's, at the others stands x.
abbrev pub filled : {A : Type 0} → A → (ℕ → A) → ℕ → ℕ → A
filled x f k i = cond (ltb i k) (f i) x

module _ {A : Type 0} (n : ℕ) (d x : A) (f : ℕ → A) where
  pub filled_none : Agrees n d (filled x f 0) (replicate n x)
  filled_none = agrees_filled n d x (λ i l. sym (rw (le-ltb i 0 zero-le)))

  pub filled_more : {xs : List A} (k : ℕ) {v : A} → k < n → v ≡ f k → Agrees n d (filled x f k) xs
      → Agrees n d (filled x f (k + 1)) (set xs k v)
  filled_more k b e =
      Agrees-set n d k b (e ∙ sym (rw (lt-ltb k (k + 1) (omega arith)))) (λ j l o. same j o (ltb j k) refl)
    where
      same : (j : ℕ) → (j ≡ k → ⊥) → (t : Bool) → ltb j k ≡ t → filled x f k j ≡ filled x f (k + 1) j
      same j o true q = let l = ltb-true j k q in rw (q, lt-ltb j (k + 1) (omega arith))
      same j o false q = let l = ltb-false j k q in rw (q, le-ltb j (k + 1) (omega arith))

  pub filled_all : {xs : List A} {k : ℕ} → n ≤ k → Agrees n d (filled x f k) xs → xs ≡ listed f n
  filled_all {k = k} b a = agrees_listed (agrees_as n d (λ i l. rw (lt-ltb i k (omega arith))) a)
