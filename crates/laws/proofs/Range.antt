-- Laws of sums and tests over a range, each once. Assumes nothing.
use mathlib.Core.Path.{◌≡◌, refl, sym, ap, ◌∙◌}
use mathlib.Core.Bool.{Bool, true, false, not, cond, ◌&&◌, ◌||◌, or-true, or-false, or_assoc, true≢false}
use mathlib.Core.Logic.{⊎_elim}
use Prim.Native.Nat.{ℕ, zero, suc, zero-le, ◌+◌, ◌*◌, ◌≤◌, ◌<◌}
use native.Mathlib.Nat.{mul_comm, le_refl, le_antisymm, le_of_eq, suc-mul, eq-or-lt_of_le, le_of_suc-le-suc}
use native.Mathlib.Numerals.{add-one}
use native.Mathlib.Omega.{arith}
use Rattle.rules.specs.Range.{sum, any, when}

-- Nowhere above, so is the sum; everywhere the same, so is the sum. The two counts may be two names of one
-- number.
below : (f g : ℕ → ℕ) (n : ℕ) → ((i : ℕ) → i < n → f i ≤ g i) → sum f n ≤ sum g n
unfolding sum
below f g zero h = zero-le
below f g (suc n) h =
    let rest : sum f n ≤ sum g n = below f g n (λ i l. h i (omega arith)) in
    omega (arith, h n (omega arith))

pub sum_mono : (f g : ℕ → ℕ) {n n' : ℕ} → n ≡ n' → ((i : ℕ) → i < n' → f i ≤ g i) → sum f n ≤ sum g n'
sum_mono f g {n} {n'} e h = rw e (below f g n' h)

pub sum_same : (f g : ℕ → ℕ) {n n' : ℕ} → n ≡ n' → ((i : ℕ) → i < n' → f i ≡ g i) → sum f n ≡ sum g n'
sum_same f g e h = le_antisymm (sum_mono f g e (λ i l. le_of_eq (h i l))) (sum_mono g f (sym e) (λ i l. le_of_eq (sym (h i (rw (sym e) l)))))

-- Two functions that differ at one place below n: their sums differ by what they have there.
pub sum_one : (f g : ℕ → ℕ) (i n : ℕ) → i < n → ((j : ℕ) → j < n → (j ≡ i → ⊥) → f j ≡ g j)
    → sum f n + g i ≡ sum g n + f i
unfolding sum
sum_one f g i zero l h = absurd (omega arith)
sum_one f g i (suc n) l h = ⊎_elim last (λ b. earlier (sum_one f g i n b (λ j c. h j (omega arith))) b) (eq-or-lt_of_le (le_of_suc-le-suc l))
  where
    last : i ≡ n → sum f n + f n + g i ≡ sum g n + g n + f i
    last e =
        let same : sum f n ≡ sum g n = sum_same f g refl (λ (j : ℕ) (b : j < n). h j (omega arith) (λ (q : j ≡ i). omega arith)) in
        omega (arith, ap f e, ap g e)

    earlier : sum f n + g i ≡ sum g n + f i → i < n → sum f n + f n + g i ≡ sum g n + g n + f i
    earlier rest b =
        omega (arith, h n (omega arith) (λ (q : n ≡ i). omega arith))

-- Each at most b, so the sum is at most n × b.
pub sum-le : (f : ℕ → ℕ) (b n : ℕ) → ((i : ℕ) → i < n → f i ≤ b) → sum f n ≤ n * b
unfolding sum
sum-le f b zero h = zero-le
sum-le f b (suc n) h =
    let rest : sum f n ≤ n * b = sum-le f b n (λ i l. h i (omega arith)) in
    rw suc-mul (omega (arith, h n (omega arith)))

-- Nowhere above, the one taken a times and the other b times, so are the sums.
pub sum_times : (a b : ℕ) (f g : ℕ → ℕ) (n : ℕ) → ((i : ℕ) → i < n → a * f i ≤ b * g i)
    → a * sum f n ≤ b * sum g n
unfolding sum
sum_times a b f g zero h = omega arith
sum_times a b f g (suc n) h = omega (arith, sum_times a b f g n (λ i l. h i (omega arith)), h n (omega arith))

-- A loop's start, its turn and its end.
pub sum_none : (f : ℕ → ℕ) → sum f 0 ≡ 0
unfolding sum
sum_none f = refl

pub sum_more : (f : ℕ → ℕ) (i : ℕ) → sum f (i + 1) ≡ sum f i + f i
unfolding sum
sum_more f i = rw add-one

pub sum_end : (f : ℕ → ℕ) {i n : ℕ} → i ≤ n → n ≤ i → sum f i ≡ sum f n
sum_end f {i} {n} p q = let e : i ≡ n = omega arith in ap (sum f) e

pub sum_fold : (f : ℕ → ℕ) (i : ℕ) {acc v : ℕ} → acc ≡ sum f i → v ≡ f i → acc + v ≡ sum f (i + 1)
sum_fold f i e q = omega (arith, sum_more f i, e, q)

pub sum_done : (f : ℕ → ℕ) {i n acc : ℕ} → i ≤ n → n ≤ i → acc ≡ sum f i → acc ≡ sum f n
sum_done f p q e = e ∙ sum_end f p q

pub when_mono : (b : Bool) {v w : ℕ} → v ≤ w → when b v ≤ when b w
unfolding when
when_mono true h = h
when_mono false h = zero-le

pub when-le : (b : Bool) (v : ℕ) → when b v ≤ v
unfolding when
when-le true v = le_refl v
when-le false v = zero-le

-- Where two tests hold; where one does, with the other or without it.
pub when_both : (a b : Bool) (v : ℕ) → when (a && b) v ≡ when a (when b v)
unfolding when
when_both true b v = refl
when_both false b v = refl

pub when_split : (a b : Bool) (v : ℕ) → when a v ≡ when (a && b) v + when (a && not b) v
unfolding when
when_split true true v = omega arith
when_split true false v = omega arith
when_split false b v = refl

-- Where one place alone passes a test, the sum over the places that pass it is what that place has.
module _ (test : ℕ → Bool) where
  abbrev passed : ℕ → ℕ
  passed n = sum (λ i. when (test i) 1) n

  -- A place that passes is one; the last is the one, or an earlier is and the last does not pass.
  pub one_passed : (i n : ℕ) → i < n → test i ≡ true → 1 ≤ passed n
  unfolding sum when
  one_passed i zero l t = absurd (omega arith)
  one_passed i (suc n) l t =
      ⊎_elim this (λ b. earlier (one_passed i n b t)) (eq-or-lt_of_le (le_of_suc-le-suc l))
    where
      this : i ≡ n → 1 ≤ passed n + cond (test n) 1 0
      this e = let s : test n ≡ true = ap test (sym e) ∙ t in rw s (omega arith)

      earlier : 1 ≤ passed n → 1 ≤ passed n + cond (test n) 1 0
      earlier h = omega arith

  none_passed : (f : ℕ → ℕ) (n : ℕ) → passed n ≡ 0 → sum (λ i. when (test i) (f i)) n ≡ 0
  unfolding sum when
  none_passed f zero e = refl
  none_passed f (suc n) e = go (test n) e (none_passed f n)
    where
      go : (b : Bool) → passed n + cond b 1 0 ≡ 0 → (passed n ≡ 0 → sum (λ i. when (test i) (f i)) n ≡ 0)
          → sum (λ i. when (test i) (f i)) n + cond b (f n) 0 ≡ 0
      go true q rest = absurd (omega (arith, q))
      go false q rest = omega (arith, rest (omega (arith, q)))

  pub sum_only : (f : ℕ → ℕ) (i n : ℕ) → i < n → test i ≡ true → passed n ≡ 1
      → sum (λ j. when (test j) (f j)) n ≡ f i
  unfolding sum when
  sum_only f i zero l t e = absurd (omega arith)
  sum_only f i (suc n) l t e =
      ⊎_elim last (λ b. earlier (test n) e b (sum_only f i n b t)) (eq-or-lt_of_le (le_of_suc-le-suc l))
    where
      last : i ≡ n → sum (λ j. when (test j) (f j)) n + cond (test n) (f n) 0 ≡ f i
      last q =
          let s : test n ≡ true = ap test (sym q) ∙ t in
          let none : passed n + 1 ≡ 1 = rw s at e in
          rw s (omega (arith, none_passed f n (omega (arith, none)), ap f q))

      earlier : (c : Bool) → passed n + cond c 1 0 ≡ 1 → i < n
          → (passed n ≡ 1 → sum (λ j. when (test j) (f j)) n ≡ f i)
          → sum (λ j. when (test j) (f j)) n + cond c (f n) 0 ≡ f i
      earlier true q b rest = absurd (omega (arith, q, one_passed i n b t))
      earlier false q b rest = omega (arith, rest (omega (arith, q)))

  -- And there is such a place.
  pub one_found : {A : Type 0} (n : ℕ) → passed n ≡ 1 → ((i : ℕ) → i < n → test i ≡ true → A) → A
  unfolding sum when
  one_found zero e with_it = absurd (omega (arith, e))
  one_found {A} (suc n) e with_it = go (test n) refl e (λ q. one_found n q (λ i l. with_it i (omega arith)))
    where
      go : (b : Bool) → test n ≡ b → passed n + cond b 1 0 ≡ 1 → (passed n ≡ 1 → A) → A
      go true t q rest = with_it n (omega arith) t
      go false t q rest = rest (omega (arith, q))

-- Two tests hold, so the one and the other.
pub both : (a b : Bool) → (a && b) ≡ true → (a ≡ true) × (b ≡ true)
both true b e = (refl, e)
both false b e = absurd (true≢false (sym e))

-- Neither of two tests holds, so neither the one nor the other.
pub or_left : (a b : Bool) → (a || b) ≡ false → a ≡ false
or_left true b e = e
or_left false b e = refl

pub or_right : (a b : Bool) → (a || b) ≡ false → b ≡ false
or_right true b e = absurd (true≢false e)
or_right false b e = e

-- No place below n passes; and the other way round.
pub any_clear : (f : ℕ → Bool) (n : ℕ) → any f n ≡ false → (i : ℕ) → i < n → f i ≡ false
unfolding any
any_clear f zero e i l = absurd (omega arith)
any_clear f (suc n) e i l =
    ⊎_elim (λ q. ap f q ∙ or_right (any f n) (f n) e) (λ q. any_clear f n (or_left (any f n) (f n) e) i q)
    (eq-or-lt_of_le (le_of_suc-le-suc l))

pub any_none : (f : ℕ → Bool) (n : ℕ) → ((i : ℕ) → i < n → f i ≡ false) → any f n ≡ false
unfolding any
any_none f zero h = refl
any_none f (suc n) h = rw (any_none f n (λ i l. h i (omega arith)), h n (omega arith))

-- A search's start, its turn, its find and its end.
pub any_start : (f : ℕ → Bool) → any f 0 ≡ false
unfolding any
any_start f = refl

pub any_step : (f : ℕ → Bool) (i : ℕ) → any f (i + 1) ≡ (any f i || f i)
unfolding any
any_step f i = rw add-one

-- A loop that joins every test into one flag.
pub any_fold : (f : ℕ → Bool) (i : ℕ) {found b : Bool} → found ≡ any f i → b ≡ f i
    → (found || b) ≡ any f (i + 1)
any_fold f i e q = rw (e, q) (sym (any_step f i))

pub any_done : (f : ℕ → Bool) {i n : ℕ} {found : Bool} → i ≤ n → n ≤ i → found ≡ any f i → found ≡ any f n
any_done f {i} {n} p q e = let same : i ≡ n = omega arith in e ∙ ap (any f) same

pub any_more : (f : ℕ → Bool) (i : ℕ) → any f i ≡ false → f i ≡ false → any f (i + 1) ≡ false
unfolding any
any_more f i e q = rw (add-one, e, q)

pub any_hit : (f : ℕ → Bool) (n i : ℕ) → i < n → f i ≡ true → any f n ≡ true
unfolding any
any_hit f zero i l q = absurd (omega arith)
any_hit f (suc n) i l q =
    ⊎_elim (λ e. ap (λ (b : Bool). any f n || b) (ap f (sym e) ∙ q) ∙ or-true (any f n)) (λ k. rw (any_hit f n i k q))
    (eq-or-lt_of_le (le_of_suc-le-suc l))

-- A test over a + b places is one over the first a, and over the b after them.
pub any_append : (f : ℕ → Bool) (a b : ℕ) → any f (a + b) ≡ (any f a || any (λ i. f (a + i)) b)
unfolding any
any_append f a zero = let none : a + 0 ≡ a = omega arith in rw none (sym (or-false (any f a)))
any_append f a (suc b) =
    let next : a + suc b ≡ suc (a + b) = omega arith in
    rw (next, any_append f a b) (or_assoc (any f a) (any (λ i. f (a + i)) b) (f (a + b)))

pub any_end : (f : ℕ → Bool) {i n : ℕ} → i ≤ n → n ≤ i → any f i ≡ false → any f n ≡ false
any_end f {i} {n} p q h = let e : n ≡ i = omega arith in ap (any f) e ∙ h

-- The same test at every place, and two tests at once.
pub any_same : (f g : ℕ → Bool) (n : ℕ) → ((i : ℕ) → i < n → f i ≡ g i) → any f n ≡ any g n
unfolding any
any_same f g zero h = refl
any_same f g (suc n) h = rw (any_same f g n (λ i l. h i (omega arith)), h n (omega arith))

pub or_swap : (a b x y : Bool) → ((a || b) || (x || y)) ≡ ((a || x) || (b || y))
or_swap true b x y = refl
or_swap false true x y = sym (or-true x)
or_swap false false x y = refl

pub any_or : (f g : ℕ → Bool) (n : ℕ) → any (λ i. f i || g i) n ≡ (any f n || any g n)
unfolding any
any_or f g zero = refl
any_or f g (suc n) =
    ap (λ (b : Bool). b || (f n || g n)) (any_or f g n) ∙ or_swap (any f n) (any g n) (f n) (g n)

-- A test of k places in one is one over k times as many places.
pub any_groups : (f : ℕ → Bool) (k n : ℕ) → any (λ i. any (λ j. f (k * i + j)) k) n ≡ any f (k * n)
unfolding any
any_groups f k zero = let none : k * 0 ≡ 0 = omega arith in rw none
any_groups f k (suc n) =
    let next : k * suc n ≡ k * n + k = omega arith in
    rw (next, any_append f (k * n) k, any_groups f k n)

-- A test over every pair of places, whichever of the two is told first.
any_swap : (g : ℕ → ℕ → Bool) (k n : ℕ) → any (λ i. any (λ j. g i j) k) n ≡ any (λ j. any (λ i. g i j) n) k
unfolding any
any_swap g zero n = any_none _ n (λ i l. refl)
any_swap g (suc k) n = any_or (λ i. any (λ j. g i j) k) (λ i. g i k) n ∙ ap (λ (b : Bool). b || any (λ i. g i k) n) (any_swap g k n)

-- A test of k places, n apart, in one is one over k times as many places.
pub any_columns : (f : ℕ → Bool) (k n : ℕ) → any (λ i. any (λ j. f (n * j + i)) k) n ≡ any f (k * n)
any_columns f k n = any_swap (λ i j. f (n * j + i)) k n ∙ any_groups f n k ∙ ap (any f) (mul_comm n k)
