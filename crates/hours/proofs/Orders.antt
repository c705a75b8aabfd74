-- A month in one of the two orders that a sheet has: its series, and that one pass over it gives its sums.
use Rattle.std.proofs.Common.{◌≡◌, ℕ, ◌+◌, ◌*◌, ◌≤◌, Bool, true, false, ◌&&◌, cond, List, length, refl, sym}
use Rattle.std.proofs.Common.{ap, ap₂, ◌∙◌, true≢false, eqb, leb, eqb-true, leb-true, le-leb, Option, arith}
use Rattle.std.specs.Prelude.Option.{Some, None}
use Rattle.rules.specs.declared.Series.{Series}
use Rattle.rules.specs.declared.HourSeries.{HourSeries}
use Rattle.rules.specs.Range.{any}
use Rattle.rules.specs.Sheet.{series}
use Rattle.laws.proofs.Range.{both}
use Rattle.refusals_powers.specs.Powers.{high_powers}
use Rattle.hours.specs.declared.order.HourOrder.{HourOrder}
use Rattle.hours.specs.Series.{stands}
use Rattle.hours.specs.Sums.{k4_in, hour_high, sums_of_hours}
use Rattle.hours.specs.Order.{is_series, are_hours, hour_order}
use Rattle.hours.specs.Figures.{tried_sums}
use Rattle.hours.proofs.Places.{hours_hold, columns_hold}

-- Which order was told.
tells_hour : Option HourOrder → Bool
tells_hour (Some HourOrder.ByHour) = true
tells_hour (Some HourOrder.ByColumn) = false
tells_hour None = false

tells_column : Option HourOrder → Bool
tells_column (Some HourOrder.ByHour) = false
tells_column (Some HourOrder.ByColumn) = true
tells_column None = false

abbrev told : Bool → Bool → Bool → Option HourOrder
told whole hour column =
    cond whole (cond hour (Some HourOrder.ByHour) (cond column (Some HourOrder.ByColumn) None)) None

hour_told : (whole hour column : Bool) → tells_hour (told whole hour column) ≡ true
    → (whole ≡ true) × (hour ≡ true)
unfolding tells_hour
hour_told true true column e = (refl, refl)
hour_told true false true e = absurd (true≢false (sym e))
hour_told true false false e = absurd (true≢false (sym e))
hour_told false hour column e = absurd (true≢false (sym e))

column_told : (whole hour column : Bool) → tells_column (told whole hour column) ≡ true
    → (whole ≡ true) × (column ≡ true)
unfolding tells_column
column_told true true column e = absurd (true≢false (sym e))
column_told true false true e = (refl, refl)
column_told true false false e = absurd (true≢false (sym e))
column_told false hour column e = absurd (true≢false (sym e))

-- The month fills the part.
abbrev Fills : List ℕ → ℕ → Type 0
Fills part days = (length part ≡ 3 * (96 * days)) × (days ≤ 31)

fills : (part : List ℕ) (days : ℕ) → (leb days 31 && eqb (length part) (3 * (96 * days))) ≡ true
    → Fills part days
fills part days e = let two = both _ _ e in (eqb-true _ _ two.1, leb-true _ _ two.0)

series_is : (x : Series) {start step : ℕ} → is_series x start step ≡ true → x ≡ series start step
unfolding is_series
series_is x e = let two = both _ _ e in ap₂ series (eqb-true _ _ two.0) (eqb-true _ _ two.1)

-- The pass over a month that stands so gives what is to be found.
module _ (part : List ℕ) (of : HourSeries) (days S step possible outside : ℕ)
    (hours : are_hours of possible outside step ≡ true)
    (fit : outside + step * (24 * days) + 4 ≤ length part + step) (small : possible ≤ outside)
    (hold : any (hour_high part step possible outside) (24 * days) ≡ high_powers part) where
  first : of.working ≡ series 0 step
  unfolding are_hours
  first = series_is of.working (both _ _ (both _ _ hours).0).0

  second : of.possible ≡ series possible step
  unfolding are_hours
  second = series_is of.possible (both _ _ (both _ _ hours).0).1

  passed : sums_of_hours part step possible outside (24 * days) S ≡ tried_sums part of days S
  unfolding sums_of_hours tried_sums k4_in stands
  passed =
      let end = length part + step in
      rw (
        hold,
        first,
        second,
        le-leb (0 + step * (24 * days) + 4) end (omega arith),
        le-leb (possible + step * (24 * days) + 4) end (omega arith),
      )

-- An order that was told.
module _ (part : List ℕ) (of : HourSeries) (days : ℕ) {order : Option HourOrder} {kind : HourOrder}
    (is : order ≡ hour_order (length part) of days) (some : order ≡ Some kind) where
  module _ (by_hour : kind ≡ HourOrder.ByHour) where
    hours_known : (leb days 31 && eqb (length part) (3 * (96 * days))) ≡ true × are_hours of 4 8 12 ≡ true
    unfolding hour_order tells_hour
    hours_known =
        hour_told _ _ (are_hours of (96 * days) (2 * (96 * days)) 4)
        (ap tells_hour (sym is ∙ some ∙ ap (λ (o : HourOrder). Some o) by_hour))

    pub hours_fill : Fills part days
    hours_fill = fills part days hours_known.0

    pub hours_held : any (hour_high part 12 4 8) (24 * days) ≡ high_powers part
    hours_held = hours_hold part days hours_fill.0

    pub hours_passed : (S : ℕ) → sums_of_hours part 12 4 8 (24 * days) S ≡ tried_sums part of days S
    hours_passed S =
        passed part of days S 12 4 8 hours_known.1 (omega (arith, hours_fill.0)) (omega arith)
        hours_held

  module _ (by_column : kind ≡ HourOrder.ByColumn) where
    columns_known : (leb days 31 && eqb (length part) (3 * (96 * days))) ≡ true
        × are_hours of (96 * days) (2 * (96 * days)) 4 ≡ true
    unfolding hour_order tells_column
    columns_known =
        column_told _ (are_hours of 4 8 12) _
        (ap tells_column (sym is ∙ some ∙ ap (λ (o : HourOrder). Some o) by_column))

    pub columns_fill : Fills part days
    columns_fill = fills part days columns_known.0

    pub columns_held : any (hour_high part 4 (4 * (24 * days)) (8 * (24 * days))) (24 * days) ≡ high_powers part
    columns_held = columns_hold part days columns_fill.0

    pub columns_passed : (S : ℕ)
        → sums_of_hours part 4 (4 * (24 * days)) (8 * (24 * days)) (24 * days) S ≡ tried_sums part of days S
    columns_passed S =
        let possible : 96 * days ≡ 4 * (24 * days) = omega arith in
        let outside : 2 * (96 * days) ≡ 8 * (24 * days) = omega arith in
        passed part of days S 4 _ _ (rw (outside, possible) at columns_known.1)
        (omega (arith, columns_fill.0)) (omega arith) columns_held
