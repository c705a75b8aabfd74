-- Days as bits of a number: of two numbers joined, of the days that another number leaves, and of one day.
-- Assumes nothing.
use mathlib.Core.Path.{◌≡◌, refl, sym, ◌∙◌}
use mathlib.Core.Bool.{Bool, true, false, not, ◌&&◌, ◌||◌, and-true, and-false, or-false}
use Prim.Native.Nat.{ℕ, zero, suc, zero-le, ◌+◌, ◌-◌, ◌*◌, ◌/◌, ◌%◌, ◌^◌, ◌<◌}
use native.Mathlib.Nat.{le_refl, one-mul, pow-succ', zero-div, div-one, div-div-eq-div-mul}
use native.Mathlib.Omega.{arith}
use borrow.Author.Tests.{eq-eqb, eqb-true, eqb-false, ltb-true, ltb-false, lt-ltb, le-ltb}
use lib.Bits.{bit_and, bit_or, and_shr, or_shr, and_mod, or_mod}
use lib.Pow.{shl_exact}
use lib.Dec.{eqb, ltb, eqb-zero-suc, eqb-suc-zero, eqb-suc-suc}
use Rattle.laws.proofs.Arrays.{filled}
use Rattle.calendar.specs.Days.{day_on}

-- Two digits joined, by the four cases.
module _ (f : ℕ → ℕ → ℕ) (g : Bool → Bool → Bool)
    (none : eqb (f 0 0) 1 ≡ g false false) (second : eqb (f 0 1) 1 ≡ g false true)
    (first : eqb (f 1 0) 1 ≡ g true false) (two : eqb (f 1 1) 1 ≡ g true true) where
  digits : (x y : ℕ) → x < 2 → y < 2 → eqb (f x y) 1 ≡ g (eqb x 1) (eqb y 1)
  digits zero zero p q = none
  digits zero (suc zero) p q = second
  digits (suc zero) zero p q = first
  digits (suc zero) (suc zero) p q = two
  digits zero (suc (suc y)) p q = absurd (omega arith)
  digits (suc zero) (suc (suc y)) p q = absurd (omega arith)
  digits (suc (suc x)) y p q = absurd (omega arith)

-- In two numbers joined by and, or by or, a day is on that is on in both, or in either.
module _ (a b day : ℕ) where
  pub on_both : day_on (bit_and a b) day ≡ (day_on a day && day_on b day)
  unfolding day_on
  on_both =
      rw (and_shr a b day, and_mod (a / 2 ^ day) (b / 2 ^ day) 1)
      (digits bit_and (λ x y. x && y) refl refl refl refl
      (a / 2 ^ day % 2) (b / 2 ^ day % 2) (omega arith) (omega arith))

  pub on_either : day_on (bit_or a b) day ≡ (day_on a day || day_on b day)
  unfolding day_on
  on_either =
      rw (or_shr a b day, or_mod (a / 2 ^ day) (b / 2 ^ day) 1)
      (digits bit_or (λ x y. x || y) refl refl refl refl
      (a / 2 ^ day % 2) (b / 2 ^ day % 2) (omega arith) (omega arith))

-- The first day is the last digit, and a day after it is a day earlier in half the number.
last : (n : ℕ) → day_on n 0 ≡ eqb (n % 2) 1
unfolding day_on
last n = rw (div-one n)

earlier : (n day : ℕ) → day_on n (suc day) ≡ day_on (n / 2) day
unfolding day_on
earlier n day = rw (pow-succ' 2 day, div-div-eq-div-mul n 2 (2 ^ day))

-- Nothing has no day on, a power of two has one.
pub no_day_on : (day : ℕ) → day_on 0 day ≡ false
unfolding day_on
no_day_on day = rw (zero-div (2 ^ day))

pub bit_is_one_day : (k day : ℕ) → day_on (2 ^ k) day ≡ eqb day k
bit_is_one_day zero zero = last 1
bit_is_one_day zero (suc day) = earlier 1 day ∙ no_day_on day ∙ sym (eqb-suc-zero day)
bit_is_one_day (suc k) zero =
    let even : 2 ^ suc k % 2 ≡ 0 = omega (arith, pow-succ' 2 k) in
    rw (last (2 ^ suc k), even) (sym (eqb-zero-suc k))
bit_is_one_day (suc k) (suc day) =
    let half : 2 ^ suc k / 2 ≡ 2 ^ k = rw (pow-succ' 2 k) (omega arith) in
    rw (earlier (2 ^ suc k) day, half, eqb-suc-suc day k) (bit_is_one_day k day)

-- The other of two digits.
other : (x : ℕ) → x < 2 → eqb (1 - x) 1 ≡ not (eqb x 1)
other zero p = refl
other (suc zero) p = refl
other (suc (suc x)) p = absurd (omega arith)

-- Of n days those that are off in x.
pub on_rest : (n x day : ℕ) → x < 2 ^ n → day < n → day_on ((2 ^ n - 1) - x) day ≡ not (day_on x day)
on_rest zero x day p q = absurd (omega arith)
on_rest (suc n) x zero p q =
    let digit : ((2 ^ suc n - 1) - x) % 2 ≡ 1 - x % 2 = omega (arith, pow-succ' 2 n) in
    rw (last ((2 ^ suc n - 1) - x), last x, digit) (other (x % 2) (omega arith))
on_rest (suc n) x (suc day) p q =
    let two = pow-succ' 2 n in
    let half : ((2 ^ suc n - 1) - x) / 2 ≡ (2 ^ n - 1) - x / 2 = omega (arith, two) in
    rw (earlier ((2 ^ suc n - 1) - x) day, half, earlier x day)
    (on_rest n (x / 2) day (omega (arith, two)) (omega arith))

-- A day more of those that are on.
more : (f : ℕ → Bool) (k day : ℕ) → filled false f (k + 1) day ≡ (filled false f k day || (eqb day k && f k))
more f k day = same (eqb day k) refl
  where
    other : (day ≡ k → ⊥) → (t : Bool) → ltb day k ≡ t
        → filled false f (k + 1) day ≡ (filled false f k day || false)
    other o true q =
        let l = ltb-true day k q in
        rw (q, lt-ltb day (k + 1) (omega arith)) (sym (or-false (f day)))
    other o false q = let l = ltb-false day k q in rw (q, le-ltb day (k + 1) (omega arith))

    same : (t : Bool) → eqb day k ≡ t
        → filled false f (k + 1) day ≡ (filled false f k day || (eqb day k && f k))
    same true q =
        rw (eqb-true day k q, lt-ltb k (k + 1) (omega arith), le-ltb k k (le_refl k), eq-eqb k k refl)
    same false q = rw q (other (eqb-false day k q) (ltb day k) refl)

pub none_filled : (f : ℕ → Bool) (day : ℕ) → day_on 0 day ≡ filled false f 0 day
none_filled f day = no_day_on day ∙ sym (rw (le-ltb day 0 zero-le))

module _ (f : ℕ → Bool) (on k : ℕ) (before : (day : ℕ) → day_on on day ≡ filled false f k day) where
  pub day_joined : k < 32 → f k ≡ true
      → (day : ℕ) → day_on (bit_or on (1 * 2 ^ k % 2 ^ 32)) day ≡ filled false f (k + 1) day
  day_joined fits is day =
      let one : 1 * 2 ^ k % 2 ^ 32 ≡ 2 ^ k =
      shl_exact {a = 1} 1 k 32 (omega arith) (omega arith) ∙ one-mul (2 ^ k) in
      rw (one, on_either on (2 ^ k) day, before day, bit_is_one_day k day, more f k day, is, and-true)

  pub day_off : f k ≡ false → (day : ℕ) → day_on on day ≡ filled false f (k + 1) day
  day_off is day = rw (before day, more f k day, is, and-false, or-false)
