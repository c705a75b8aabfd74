-- The control hours day by day: six hours of each control day. Assumes nothing.
use mathlib.Core.Path.{◌≡◌, refl, ap, ◌∙◌}
use mathlib.Core.Bool.{Bool, true, false, ◌&&◌}
use Prim.Native.Nat.{ℕ, zero, suc, ◌+◌, ◌*◌, ◌/◌, ◌%◌, ◌<◌, ◌≤◌}
use native.Mathlib.Omega.{arith}
use lib.Dec.{leb}
use borrow.Author.Tests.{le-leb, lt-leb}
use Rattle.rules.specs.declared.Header.{Header}
use Rattle.rules.specs.Range.{sum, when}
use Rattle.rules.specs.ControlHours.{control_day, control_hour, counted, once, control_sum, control_count}
use Rattle.laws.proofs.Range.{sum_same}

-- A sum over a + b places is the sum over the first a, and over the b after them.
pub sum_append : (f : ℕ → ℕ) (a b : ℕ) → sum f (a + b) ≡ sum f a + sum (λ i. f (a + i)) b
unfolding sum
sum_append f a zero = let none : a + 0 ≡ a = omega arith in rw none (omega arith)
sum_append f a (suc b) =
    let next : a + suc b ≡ suc (a + b) = omega arith in
    rw next (omega (arith, sum_append f a b))

-- Nothing anywhere is nothing in all.
sum_zero : (f : ℕ → ℕ) (n : ℕ) → ((i : ℕ) → i < n → f i ≡ 0) → sum f n ≡ 0
unfolding sum
sum_zero f zero h = refl
sum_zero f (suc n) h = omega (arith, sum_zero f n (λ i l. h i (omega arith)), h n (omega arith))

sum-when : (b : Bool) (f : ℕ → ℕ) (n : ℕ) → sum (λ i. when b (f i)) n ≡ when b (sum f n)
unfolding when
sum-when true f n = refl
sum-when false f n = sum_zero (λ i. 0) n (λ i l. refl)

-- The hours 17 to 22 of a day.
abbrev pub evening : (ℕ → ℕ) → ℕ → ℕ
evening g d = sum (λ t. g (24 * d + (17 + t))) 6

module _ (h : Header) (g : ℕ → ℕ) (d : ℕ) where
  counted_at_hour : (t : ℕ) → t < 24
      → counted h g (24 * d + t) ≡ when (leb 17 t && leb t 22 && control_day h d) (g (24 * d + t))
  unfolding counted control_hour
  counted_at_hour t l =
      let hour : (24 * d + t) % 24 ≡ t = omega arith in
      let day : (24 * d + t) / 24 ≡ d = omega arith in
      rw (hour, day)

  early : (t : ℕ) → t < 17 → counted h g (24 * d + t) ≡ 0
  unfolding when
  early t l = counted_at_hour t (omega arith) ∙ rw (lt-leb 17 t l)

  evening_hour : (t : ℕ) → t < 6
      → counted h g (24 * d + (17 + t)) ≡ when (control_day h d) (g (24 * d + (17 + t)))
  evening_hour t l =
      let last : 17 + t ≤ 22 = omega arith in
      counted_at_hour (17 + t) (omega arith) ∙ rw (le-leb 17 (17 + t) (omega arith), le-leb (17 + t) 22 last)

  night : counted h g (24 * d + 23) ≡ 0
  unfolding when
  night = counted_at_hour 23 (omega arith)

  -- A control day adds its evening hours, another day nothing.
  pub control_day_sum : sum (λ t. counted h g (24 * d + t)) 24 ≡ when (control_day h d) (evening g d)
  control_day_sum =
      omega (
        arith,
        sum_append (λ t. counted h g (24 * d + t)) 17 7,
        sum_append (λ t. counted h g (24 * d + (17 + t))) 6 1,
        sum_zero (λ t. counted h g (24 * d + t)) 17 early,
        sum_same (λ t. counted h g (24 * d + (17 + t))) (λ t. when (control_day h d) (g (24 * d + (17 + t)))) {n =
            6} refl evening_hour,
        sum-when (control_day h d) (λ t. g (24 * d + (17 + t))) 6,
        last_hour,
      )
    where
      last_hour : sum (λ t. counted h g (24 * d + (17 + (6 + t)))) 1 ≡ 0
      last_hour = sum_zero (λ t. counted h g (24 * d + (17 + (6 + t)))) 1 (λ t l. let e : 17 + (6 + t) ≡ 23 = omega arith in rw e night)

-- The control sum, day by day.
pub control_by_day : (h : Header) (g : ℕ → ℕ) (n : ℕ)
    → sum (counted h g) (24 * n) ≡ sum (λ d. when (control_day h d) (evening g d)) n
unfolding sum
control_by_day h g zero = refl
control_by_day h g (suc n) =
    let next : 24 * suc n ≡ 24 * n + 24 = omega arith in
    rw (next, sum_append (counted h g) (24 * n) 24, control_by_day h g n, control_day_sum h g n)

-- And their count.
pub count_by_day : (h : Header) → control_count h ≡ sum (λ d. when (control_day h d) 6) h.days
unfolding control_count control_sum
count_by_day h =
    control_by_day h once h.days ∙ sum_same _ _ {n = h.days} refl (λ d l. ap (when (control_day h d)) six)
  where
    six : sum (λ t. 1) 6 ≡ 6
    six = unfold sum in refl
