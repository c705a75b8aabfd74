-- The control average is that of the definitions, where the days that are marked are those of the table.
use Rattle.std.proofs.Common.{◌≡◌, ℕ, ◌+◌, ◌*◌, ◌<◌, ◌≤◌, Bool, true, sym, refl, ap, ◌∙◌, ap₂, arith, le-leb}
use Rattle.rules.specs.declared.Header.{Header}
use Rattle.rules.specs.Range.{sum, when}
use Rattle.rules.specs.ControlHours.{control_day, control_sum, control_count, control_average}
use Rattle.rules.specs.ControlTable.{table_day}
use Rattle.laws.proofs.Range.{sum_same}
use Rattle.laws.proofs.ControlHours.{evening, control_by_day, count_by_day}
use Rattle.laws.proofs.ControlTable.{table_day_same}
use Rattle.units.specs.Sums.{tenths}
use Rattle.calendar.specs.Days.{day_on}
use Rattle.hours.specs.Control.{control_in, average_of}

module _ (h : Header) (few : h.days ≤ 31) (from : 1 ≤ h.weekday) (to : h.weekday ≤ 7) (on : ℕ)
    (days : (d : ℕ) → day_on on d ≡ table_day h d) where
  marked : (d : ℕ) → d < h.days → day_on on d ≡ control_day h d
  marked d b = days d ∙ table_day_same h d from to (omega arith)

  count_known : sum (λ d. when (day_on on d) 6) h.days ≡ control_count h
  count_known =
      sum_same _ _ {n = h.days} refl (λ d b. ap (λ (t : Bool). when t 6) (marked d b)) ∙ sym (count_by_day h)

  -- Of powers that stand in a part, and are those of a series in every hour of the month.
  module _ (powers series : ℕ → ℕ) {standing : Bool} (stands : standing ≡ true)
      (read : (i : ℕ) → i < 24 * h.days → powers i ≡ series i) where
    evening_read : (d : ℕ) → d < h.days → evening powers d ≡ evening series d
    evening_read d b = sum_same _ _ {n = 6} refl (λ t q. read (24 * d + (17 + t)) (omega arith))

    sum_known : sum (λ d. when (day_on on d) (evening powers d)) h.days ≡ control_sum h series
    unfolding control_sum
    sum_known =
        sum_same _ _ {n = h.days} refl (λ d b. ap₂ when (marked d b) (evening_read d b))
        ∙ sym (control_by_day h series h.days)

    control_known : control_in standing powers h.days on
        ≡ record { counted = tenths (control_sum h series); count = control_count h }
    unfolding control_in
    control_known = rw (le-leb h.days 31 few, stands, sum_known, count_known)

    pub average_known : (fineness : ℕ)
        → average_of fineness (control_in standing powers h.days on) ≡ control_average fineness h series
    unfolding control_average
    average_known fineness = rw control_known
