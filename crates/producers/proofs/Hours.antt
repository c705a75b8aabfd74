-- A producer's hours: k4's sums, the control average and their bounds, from the stretch in which they stand.
-- Assumes nothing.
use Rattle.std.proofs.Common.{Result, IfOk, MatchResult}
use Rattle.std.specs.Prelude.Result.{Ok, Err}
use mathlib.Core.Path.{◌≡◌, refl, sym, ap, ap₂, ◌∙◌}
use mathlib.Core.Bool.{true, false}
use mathlib.Core.List.{List}
use Prim.Native.Nat.{ℕ, ◌+◌, ◌*◌, ◌≤◌, ◌<◌, min}
use native.Mathlib.Omega.{arith}
use borrow.Author.Tests.{le-leb, ltb-false}
use lib.ListN.{length, take, drop, length-take, length-drop}
use Rattle.rules.specs.declared.Layout.{Layout}
use Rattle.rules.specs.declared.Series.{Series}
use Rattle.rules.specs.declared.HourSeries.{HourSeries}
use Rattle.rules.specs.Range.{sum}
use Rattle.rules.specs.Month.{hours}
use Rattle.rules.specs.Sheet.{hours_width, hours_at, power, hour_series, producer_under}
use Rattle.rules.specs.Outcome.{within}
use Rattle.rules.specs.Units.{hundredth}
use Rattle.rules.specs.ControlHours.{control_average}
use Rattle.rules.specs.ControlTable.{table_day, in_table}
use Rattle.rules.specs.Coefficients.{asked, met, met_over, exact_k4}
use Rattle.rules.specs.declared.Refusal.{Refusal}
use Rattle.laws.proofs.ControlTable.{in_table_means}
use Rattle.laws.specs.Bounds.{most_word}
use Rattle.units.specs.declared.Hundredths.{Hundredths}
use Rattle.rules.specs.Refusals.{one_of, too_high, high_hour}
use Rattle.laws.proofs.Range.{sum_same, sum-le, any_clear, or_left}
use Rattle.laws.proofs.Fields.{read_part}
use Rattle.laws.proofs.Sheet.{Spans, series_span, span_ends}
use Rattle.calendar.specs.Days.{day_on}
use Rattle.sheet.specs.Whole.{stretch_in}
use Rattle.sheet.proofs.Whole.{stretch_whole}
use Rattle.refusals_sheet.proofs.Hours.{stretch_high}
use Rattle.refusals_powers.specs.Powers.{high_powers}
use Rattle.hours.specs.declared.figures.HourFigures.{HourFigures}
use Rattle.hours.specs.declared.k4.K4.{K4}
use Rattle.hours.specs.Figures.{hour_figures}
use Rattle.hours.proofs.Found.{figures_low, figures_high}
use Rattle.hours.specs.Series.{stands, power_in}
use Rattle.hours.specs.Sums.{k4_in}
use Rattle.hours.specs.Control.{power_control, average_of}
use Rattle.hours.proofs.Known.{average_known}
use Rattle.producers.specs.Terms.{most_met, high_in, HoursKnown}

module _ (l : Layout) (s : List ℕ) (p : ℕ) (fits : hours_at l p + hours_width l.header ≤ length s) {part : List ℕ} (lent : part ≡ within (stretch_in l (length s) p) s) where
  there : part ≡ take (hours_width l.header) (drop (hours_at l p) s)
  unfolding within
  there = lent ∙ rw (stretch_whole l s p fits)

  wide : length part ≡ 288 * l.header.days
  wide = rw there (simp (length-take, length-drop) (omega arith))

  -- A series of the producer's powers stands in the stretch, and is read there.
  module _ (x : Series) (spans : Spans l.header x) where
    standing : stands (length part) x (24 * l.header.days) ≡ true
    unfolding stands
    standing = le-leb (x.start + x.step * (24 * l.header.days) + 4) (length part + x.step) (rw wide spans)

    read : (i : ℕ) → i < 24 * l.header.days → power_in part x i ≡ power s (hours_at l p) x i
    unfolding power
    read i b = rw there (read_part 4 (hours_width l.header) (hours_at l p) (x.start + x.step * i) s (span_ends l.header x spans i b))

  -- The three of them.
  working_spans : Spans l.header (hour_series l).working
  working_spans = (series_span l).0

  possible_spans : Spans l.header (hour_series l).possible
  possible_spans = (series_span l).1

  outside_spans : Spans l.header (hour_series l).outside
  outside_spans = (series_span l).2

  -- k4.
  module _ (S : ℕ) where
    asked_read : (i : ℕ) → i < hours l.header
        → min S (power_in part (hour_series l).possible i) ≡ asked (producer_under l s p) S i
    unfolding asked
    asked_read i b = ap (min S) (read (hour_series l).possible possible_spans i b)

    met_read : (i : ℕ) → i < hours l.header
        → min (min S (power_in part (hour_series l).possible i)) (power_in part (hour_series l).working i) ≡ met (producer_under l s p) S i
    unfolding met
    met_read i b =
        ap₂ (λ (m w : ℕ). min m w) (asked_read i b) (read (hour_series l).working working_spans i b)

    pub sums_known : {of : HourSeries} {k : K4} → of ≡ hour_series l
        → k ≡ k4_in part of.working of.possible l.header.days S
        → (k.met.0 ≡ sum (met (producer_under l s p) S) (hours l.header)) × (k.asked.0 ≡ sum (asked (producer_under l s p) S) (hours l.header))
    unfolding k4_in
    sums_known hour sums =
        let w = standing (hour_series l).working working_spans in
        let q = standing (hour_series l).possible possible_spans in (
          rw (sums, hour, w, q) (sum_same _ _ {n = hours l.header} refl met_read),
          rw (sums, hour, w, q) (sum_same _ _ {n = hours l.header} refl asked_read),
        )

  -- The control average.
  module _ (few : l.header.days ≤ 31) (from : 1 ≤ l.header.weekday) (to : l.header.weekday ≤ 7) (on : ℕ) (days : (d : ℕ) → day_on on d ≡ table_day l.header d) where
    pub average_is : {of : HourSeries} {a : ℕ} → of ≡ hour_series l
        → a ≡ average_of hundredth (power_control part of.outside l.header.days on)
        → a ≡ control_average hundredth l.header (producer_under l s p).outside_use
    average_is hour is =
        is
        ∙ ap (λ (x : HourSeries). average_of hundredth (power_control part x.outside l.header.days on)) hour
        ∙ average_known l.header few from to on days (power_in part (hour_series l).outside) (producer_under l s p).outside_use
        (standing (hour_series l).outside outside_spans) (read (hour_series l).outside outside_spans) hundredth

-- Where no power is above the ceiling, no more is met than the ceiling in every hour of 31 days.
pub met_fits : (l : Layout) (s : List ℕ) (p S : ℕ) → hours_at l p + hours_width l.header ≤ length s
    → l.header.days ≤ 31 → high_in l s p ≡ false
    → sum (met (producer_under l s p) S) (hours l.header) ≤ most_met
met_fits l s p S fits few none =
    omega (arith, sum-le (met (producer_under l s p) S) 100000 (hours l.header) each, few)
  where
    each : (i : ℕ) → i < hours l.header → met (producer_under l s p) S i ≤ 100000
    each i b =
        let low : (producer_under l s p).working i ≤ 100000 =
        unfold high_hour one_of too_high in ltb-false 100000 _ (or_left _ _ (any_clear (high_hour (producer_under l s p)) (hours l.header) (sym (stretch_high l s p fits) ∙ none) i b)) in
        unfold met in omega (arith, low)

-- What the figures of producer p's hours are: what is known where no power is above the ceiling, or number 9.
module _ (l : Layout) (s : List ℕ) (p S on : ℕ) (inside : hours_at l p + hours_width l.header ≤ length s)
    (month : in_table l.header ≡ true) (days : (d : ℕ) → day_on on d ≡ table_day l.header d)
    {of : HourSeries} (hour : of ≡ hour_series l)
    {part : List ℕ} (lent : part ≡ within (stretch_in l (length s) p) s) where
  pub hours_known : (r : Result HourFigures Refusal) → r ≡ hour_figures part of l.header.days S on
      → IfOk r (λ f. (f.sums.asked.0 ≤ most_word * (24 * l.header.days))
      × (f.sums.met.0 ≤ most_word * (24 * l.header.days)) × (f.average.0 ≤ 10 * most_word))
      → MatchResult r
      (λ f. (high_in l s p ≡ false) × HoursKnown l s p S f)
      (λ refusal. (high_in l s p ≡ true) × (refusal ≡ Refusal.AboveCeiling))
  unfolding exact_k4
  hours_known (Ok f) is few =
      let found = figures_low part of l.header.days S on (sym is) in
      let low = sym (ap high_powers lent) ∙ found.0 in
      let table = in_table_means l.header month in
      let sums = sums_known l s p inside lent S hour found.1 in (
        low,
        record {
          k4 = ap₂ met_over sums.0 sums.1;
          average =
              average_is l s p inside lent table.0 table.1 table.2 on days hour
              (ap (λ (y : Hundredths). y.0) found.2);
          few = few.2;
          fits = rw sums.0 (met_fits l s p S inside table.0 low);
        },
      )
  hours_known (Err r) is few =
      let found = figures_high part of l.header.days S on (sym is) in
      (sym (ap high_powers lent) ∙ found.0, found.1)
