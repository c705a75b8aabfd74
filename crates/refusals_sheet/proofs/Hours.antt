-- Numbers 8 and 9 of producers: of their stated figures, and of the powers in the stretches of their hours.
-- Assumes nothing.
use mathlib.Core.Path.{◌≡◌, refl, sym, ◌∙◌}
use mathlib.Core.Bool.{Bool, true, false, or-false, or_assoc}
use mathlib.Core.List.{List}
use Prim.Native.Nat.{ℕ, ◌+◌, ◌*◌, ◌≤◌, ◌<◌}
use native.Mathlib.Omega.{arith}
use lib.ListN.{length}
use Rattle.rules.specs.declared.Layout.{Layout}
use Rattle.rules.specs.Range.{any}
use Rattle.rules.specs.Month.{hours}
use Rattle.rules.specs.Fields.{big_endian}
use Rattle.rules.specs.Sheet.{hours_width, producer_at, hours_at, sheet_length, stated_of, by_column, triples}
use Rattle.rules.specs.Sheet.{columns, hour_series, power, producer_under, month_under}
use Rattle.rules.specs.Refusals.{one_of, too_high, bad_share, high_hour, some_producer}
use Rattle.rules.specs.Outcome.{within}
use Rattle.laws.proofs.Range.{any_same, any_groups, any_columns}
use Rattle.laws.proofs.Sheet.{by_hour, by_column_means, hours_inside}
use Rattle.sheet.specs.Whole.{stated_in, stretch_in}
use Rattle.sheet.proofs.Whole.{stated_whole, stretch_whole}
use Rattle.refusals_record.specs.Stated.{without_power, high_stated}
use Rattle.refusals_powers.specs.Powers.{high_powers}
use Rattle.refusals_powers.proofs.Powers.{part_high}
use Rattle.refusals_sheet.specs.Tests.{high_figures}
use Rattle.refusals_sheet.specs.Numbers.{high_hours}

module _ (layout : Layout) (s : List ℕ) (p : ℕ) where
  abbrev high_at : ℕ → Bool
  high_at i = too_high (big_endian 4 s (hours_at layout p + 4 * i))

  -- An hour's three powers, where one power in the stretch follows the other: three together, or a column
  -- apart.
  together : (i : ℕ) → hour_series layout ≡ triples
      → any (λ j. high_at (3 * i + j)) 3 ≡ high_hour (producer_under layout s p) i
  unfolding any high_hour one_of power
  together i e =
      let w : 4 * (3 * i + 0) ≡ 0 + 12 * i = omega arith in
      let q : 4 * (3 * i + 1) ≡ 4 + 12 * i = omega arith in
      let o : 4 * (3 * i + 2) ≡ 8 + 12 * i = omega arith in
      rw (e, w, q, o, or-false) (simp or_assoc)

  apart : (i : ℕ) → hour_series layout ≡ columns layout.header
      → any (λ j. high_at (hours layout.header * j + i)) 3 ≡ high_hour (producer_under layout s p) i
  unfolding any high_hour one_of power
  apart i e =
      let w : 4 * (hours layout.header * 0 + i) ≡ 0 + 4 * i = omega arith in
      let q : 4 * (hours layout.header * 1 + i) ≡ 96 * layout.header.days + 4 * i = omega arith in
      let o : 4 * (hours layout.header * 2 + i) ≡ 192 * layout.header.days + 4 * i = omega arith in
      rw (e, w, q, o, or-false) (simp or_assoc)

  -- The powers of the stretch are those of the hours, in every version.
  all_high : any high_at (3 * hours layout.header)
      ≡ any (high_hour (producer_under layout s p)) (hours layout.header)
  all_high = go (by_column layout) refl
    where
      go : (b : Bool) → by_column layout ≡ b → any high_at (3 * hours layout.header)
          ≡ any (high_hour (producer_under layout s p)) (hours layout.header)
      go false e = sym (any_groups high_at 3 (hours layout.header)) ∙ any_same _ _ (hours layout.header) (λ i l. together i (by_hour layout e))
      go true e = sym (any_columns high_at 3 (hours layout.header)) ∙ any_same _ _ (hours layout.header) (λ i l. apart i (by_column_means layout e))

  pub stretch_high : hours_at layout p + hours_width layout.header ≤ length s
      → high_powers (within (stretch_in layout (length s) p) s) ≡ any (high_hour (producer_under layout s p)) (hours layout.header)
  unfolding within
  stretch_high fits =
      rw (stretch_whole layout s p fits)
      (part_high s (hours_at layout p) (hours_width layout.header) (3 * hours layout.header) (omega arith) fits ∙ all_high)

  -- In a whole sheet, of a producer below P.
  module _ (whole : sheet_length layout ≤ length s) (below : p < layout.header.producers) where
    ends : hours_at layout p + hours_width layout.header ≤ length s
    ends = omega (arith, hours_inside layout p below)

    stated : stated_in layout s p ≡ stated_of s (producer_at layout p)
    stated = stated_whole layout s p (unfold hours_at in omega (arith, ends))

    share : bad_share layout.header (without_power (stated_in layout s p))
        ≡ bad_share layout.header (producer_under layout s p)
    unfolding bad_share
    share = rw stated refl

    high : high_stated (stated_in layout s p) ≡ high_figures (producer_under layout s p)
    unfolding high_figures one_of high_stated
    high = rw (stated, or-false) refl

-- Of the producers of a whole sheet: 8; 9 of what they state; 9 of their hours.
module _ (layout : Layout) (s : List ℕ) (whole : sheet_length layout ≤ length s) where
  pub shares_read : any (λ p. bad_share layout.header (without_power (stated_in layout s p))) layout.header.producers
      ≡ some_producer (month_under layout s) (bad_share layout.header)
  shares_read = any_same _ _ _ (λ p l. share layout s p whole l)

  pub stated_read : any (λ p. high_stated (stated_in layout s p)) layout.header.producers
      ≡ some_producer (month_under layout s) high_figures
  stated_read = any_same _ _ _ (λ p l. high layout s p whole l)

  pub hours_high : high_hours layout s layout.header.producers
      ≡ any (λ p. any (high_hour (producer_under layout s p)) (hours layout.header)) layout.header.producers
  unfolding high_hours
  hours_high = any_same _ _ _ (λ p l. stretch_high layout s p (ends layout s p whole l))
