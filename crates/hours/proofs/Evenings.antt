-- The control hours, from an hour of an evening to the next and from a day to the next.
use Rattle.std.proofs.Common.{◌≡◌, ℕ, ◌+◌, ◌*◌, ◌≤◌, true, false, ◌∙◌, arith}
use Rattle.rules.specs.Range.{sum, when}
use Rattle.laws.proofs.Range.{sum_none, sum_more, sum_end}
use Rattle.calendar.specs.Days.{day_on}
use Rattle.hours.specs.Control.{control_of}

-- A sum beside what was counted before it.
pub none_beside : (f : ℕ → ℕ) {counted : ℕ} (before : ℕ) → counted ≡ before → counted ≡ before + sum f 0
none_beside f before e = omega (arith, sum_none f, e)

pub more_beside : (f : ℕ → ℕ) (t : ℕ) {counted v : ℕ} (before : ℕ) → counted ≡ before + sum f t → v ≡ f t
    → counted + v ≡ before + sum f (t + 1)
more_beside f t before e q = omega (arith, sum_more f t, e, q)

module _ (series : ℕ → ℕ) (on day : ℕ) where
  abbrev hour : ℕ → ℕ
  hour t = series (24 * day + (17 + t))

  module _ (marked : day_on on day ≡ true) where
    pub evening_counted : {counted t : ℕ} → t ≤ 6 → 6 ≤ t
        → counted ≡ (control_of series on day).counted.0 + sum hour t
        → counted ≡ (control_of series on (day + 1)).counted.0
    unfolding when
    evening_counted p q e = rw (sum_more, marked) (e ∙ rw (sum_end hour p q))

    pub hours_counted : {count : ℕ} → count ≡ (control_of series on day).count
        → count + 6 ≡ (control_of series on (day + 1)).count
    unfolding when
    hours_counted e = rw (sum_more, marked) (omega (arith, e))

  module _ (other : day_on on day ≡ false) where
    pub evening_passed : {counted : ℕ} → counted ≡ (control_of series on day).counted.0
        → counted ≡ (control_of series on (day + 1)).counted.0
    unfolding when
    evening_passed e = rw (sum_more, other) (omega (arith, e))

    pub hours_passed : {count : ℕ} → count ≡ (control_of series on day).count
        → count ≡ (control_of series on (day + 1)).count
    unfolding when
    hours_passed e = rw (sum_more, other) (omega (arith, e))
