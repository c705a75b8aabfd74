-- A producer's terms before the first row, and the array that holds them. Assumes nothing.
use mathlib.Core.Path.{◌≡◌, refl, sym, ap, ◌∙◌}
use mathlib.Core.Bool.{Bool, true, false, cond, not, or-true, or-false}
use mathlib.Core.List.{List}
use Prim.Native.Nat.{ℕ, zero, suc, ◌+◌, ◌-◌, ◌≤◌, ◌<◌, min}
use native.Mathlib.Omega.{arith}
use borrow.Author.Tests.{eq-eqb, ne_eqb, le-ltb, lt-ltb, ltb-true, ltb-false}
use lib.Dec.{eqb, ltb}
use lib.ListN.{length, set, replicate}
use Rattle.rules.specs.declared.Layout.{Layout}
use Rattle.rules.specs.declared.Ratio.{Ratio}
use Rattle.rules.specs.declared.Stated.{Stated}
use Rattle.rules.specs.Month.{Month}
use Rattle.rules.specs.Sheet.{producer_at, sheet_length, stated_of, producer_under, month_under}
use Rattle.rules.specs.Limits.{HeaderLimits}
use Rattle.rules.specs.Cut.{
  sold,
  own_volume,
  bilateral_volume,
  summed_capacity,
  excess,
  left_to_cut,
  row_count,
  single,
}
use Rattle.rules.specs.Units.{one, hundredth}
use Rattle.rules.specs.ControlHours.{control_average}
use Rattle.rules.specs.Coefficients.{
  millionths_of,
  overuse,
  penalty,
  less_penalty,
  exact_k1,
  k1,
  k2,
  met_over,
  exact_k4,
  k4,
  k5,
  from_k5,
  in_order,
  support_after,
  capacity_after,
  coefficients,
}
use Rattle.rules.specs.Rows.{begun}
use Rattle.rules.specs.Range.{listed, any}
use Rattle.rules.specs.ControlTable.{in_table}
use Rattle.laws.proofs.Range.{sum_none, any_start, any_step, any_clear}
use Rattle.laws.proofs.Arrays.{Agrees, agrees_as, listed_agrees, agrees_listed}
use Rattle.laws.proofs.Arrays.{filled, filled_none, filled_more}
use Rattle.laws.proofs.ControlTable.{is_in_table}
use Rattle.laws.specs.ShortForm.{left_after_cut}
use Rattle.laws.proofs.Cut.{summed_after, support_le}
use Rattle.laws.proofs.Coefficients.{k4_part}
use Rattle.laws.proofs.Rows.{single_short}
use Rattle.units.specs.Sums.{tenths, millionths}
use Rattle.row_figures.specs.declared.Factors.{Factors}
use Rattle.volumes.specs.declared.Volumes.{Volumes}
use Rattle.volumes.specs.Volumes.{most_volume, Fits, volumes_of}
use Rattle.refusals_sheet.specs.Numbers.{high_hours}
use Rattle.producers.specs.declared.Terms.{Terms}
use Rattle.producers.specs.Terms.{
  most_met,
  penalty_from,
  ks_from,
  single_product,
  with_both,
  single_factors,
  shared_factors,
  factors_of,
  terms_at,
  high_in,
  no_terms,
  zero_terms,
  with_terms,
  own_terms,
  terms_below,
  terms_of,
  Known,
}

-- The excess and what it leaves, from what the rows add up to and from stated figures.
module _ (l : Layout) (s : List ℕ) (p : ℕ) {v : Volumes} {x : Stated} (known : v ≡ volumes_of (month_under l s) p) (stated : x ≡ stated_of s (producer_at l p)) where
  pub excess_is : {e : ℕ} → e ≡ v.support.0 + v.bilateral.0 + x.deductible - x.needs - x.attested
      → e ≡ excess (month_under l s) p
  unfolding excess summed_capacity
  excess_is e = rw (e, known, stated)

  pub left_is : {e n : ℕ} → e ≡ excess (month_under l s) p → n ≡ v.support.0 + v.bilateral.0 - e
      → n ≡ left_after_cut (month_under l s) p
  left_is over n = rw (n, over, known)

  -- S after the cut.
  pub capacity_is : {n : ℕ} → n ≡ left_after_cut (month_under l s) p
      → n + x.deductible ≡ capacity_after (month_under l s) p
  unfolding capacity_after
  capacity_is n = rw (n, stated) (sym (summed_after (month_under l s) p))

-- k1 to k10 from a producer's stated figures, k1 and k4.
pub ks_known : (l : Layout) (s : List ℕ) (p : ℕ) {x : Stated} → x ≡ stated_of s (producer_at l p)
    → (first fourth : ℕ)
    → ks_from l.header x first fourth ≡ with_both l.header (producer_under l s p) first fourth
unfolding k2 k5 from_k5
ks_known l s p stated first fourth = rw stated

-- Before the first row all of the excess is left.
pub left_first : (m : Month) (p : ℕ) → left_to_cut m p 0 ≡ excess m p
unfolding left_to_cut
left_first m p = omega (arith, sum_none (own_volume m (sold m) p))

-- n × D from the control average.
pub penalty_known : (l : Layout) (s : List ℕ) (p : ℕ) {x : Stated} {a r : ℕ}
    → x ≡ stated_of s (producer_at l p)
    → a ≡ control_average hundredth l.header (producer_under l s p).outside_use
    → r ≡ penalty_from a x.deductible → r ≡ penalty l.header (producer_under l s p)
unfolding penalty overuse
penalty_known l s p stated average is = rw (is, average, stated)

-- The factors of a producer with a single row, and of one with more or none.
module _ (m : Month) (p : ℕ) where
  alone : row_count m p ≡ 1 → single m p ≡ true
  unfolding single
  alone e = eq-eqb _ _ e

  pub single_known : {b : Bool} {volume x : ℕ} {k : Ratio} {ks : List ℕ} → row_count m p ≡ 1
      → b ≡ eqb (bilateral_volume m (sold m) p) 0 → volume ≡ left_after_cut m p
      → x ≡ penalty m.header (m.producer p)
      → k ≡ exact_k4 m.header (m.producer p) (capacity_after m p)
      → ks ≡ with_both m.header (m.producer p) one one
      → single_factors (millionths (single_product b volume x k)) ks ≡ factors_of m p
  unfolding single_product begun
  single_known e kind volume over fourth ks =
      let short = single_short m p (alone e) (exact_k4 m.header (m.producer p) (capacity_after m p)) (k4_part m.header (m.producer p) (capacity_after m p)).1 in
      rw (kind, volume, over, fourth, ks, sym short, alone e)

  pub shared_known : {T x : ℕ} {k : Ratio} {ks : List ℕ} → (row_count m p ≡ 1 → ⊥) → T ≡ support_after m p
      → x ≡ penalty m.header (m.producer p)
      → k ≡ exact_k4 m.header (m.producer p) (capacity_after m p)
      → ks ≡ with_both m.header (m.producer p) (millionths_of (less_penalty T x)) (millionths_of k)
      → shared_factors ks ≡ factors_of m p
  unfolding single coefficients in_order k1 exact_k1 k4
  shared_known n support over fourth ks = rw (ks, support, over, fourth, ne_eqb _ _ n)

  -- T after the cut fits.
  pub support_fits : {v : Volumes} {T : ℕ} → v ≡ volumes_of m p → Fits v → T ≡ support_after m p
      → T ≤ most_volume
  unfolding support_after
  support_fits known fits e =
      omega (arith, e, support_le m p, ap (λ (x : Volumes). x.support.0) known, fits.0)

-- A producer's terms before the first row.
pub first_terms : (m : Month) (p : ℕ) {e : ℕ} {by : Factors} → e ≡ excess m p → by ≡ factors_of m p
    → record { excess = tenths e; by = by } ≡ terms_at m p 0
first_terms m p over is = rw (over, is, left_first m p)

-- What is met over what is asked fits where what is met does.
pub part_fits : (met asked : ℕ) → met ≤ most_met → (met_over met asked).part ≤ most_met
unfolding met_over
part_fits met zero l = omega arith
part_fits met (suc asked) l = l

-- An array of six with the terms of the first n producers, and the number of their hours: 9, or 0.
pub record Tried (layout : Layout) (s : List ℕ) (n : ℕ) (all : List Terms) (found : ℕ) : Type 0 where
  pub terms : Agrees 6 no_terms (filled zero_terms (own_terms layout s) n) all
  pub number : found ≡ cond (high_hours layout s n) 9 0

module _ (layout : Layout) (s : List ℕ) where
  pub tried_none : Tried layout s 0 (replicate 6 zero_terms) 0
  unfolding high_hours
  tried_none =
      record {
        terms = filled_none 6 no_terms zero_terms (own_terms layout s);
        number = rw (any_start (high_in layout s)) refl;
      }

  -- One producer more, without a power above the ceiling and with one.
  module _ (p : ℕ) {all : List Terms} {found : ℕ} (tried : Tried layout s p all found) where
    pub tried_low : {t : Terms} → p < 6 → high_in layout s p ≡ false → t ≡ terms_at (month_under layout s) p 0
        → Tried layout s (p + 1) (set all p t) found
    unfolding high_hours
    tried_low b low is =
        record {
          terms = filled_more 6 no_terms zero_terms (own_terms layout s) p b (is ∙ rw low refl) tried.terms;
          number =
              tried.number ∙ rw (
                any_step (high_in layout s) p,
                low,
                or-false (any (high_in layout s) p),
              )
              refl;
        }

    pub tried_high : {nine : ℕ} → high_in layout s p ≡ true → nine ≡ 9 → Tried layout s (p + 1) all nine
    unfolding high_hours
    tried_high high is =
        record {
          terms = agrees_as 6 no_terms (λ i b. same i (ltb i p) refl) tried.terms;
          number = is ∙ rw (any_step (high_in layout s) p, high, or-true (any (high_in layout s) p)) refl;
        }
      where
        last : (i : ℕ) (t : Bool) → ltb i p ≡ false → ltb i (p + 1) ≡ t
            → zero_terms ≡ filled zero_terms (own_terms layout s) (p + 1) i
        last i true q r =
            let e : i ≡ p = omega (arith, ltb-false i p q, ltb-true i (p + 1) r) in
            rw (r, e, high) refl
        last i false q r = rw r refl

        same : (i : ℕ) (t : Bool) → ltb i p ≡ t
            → filled zero_terms (own_terms layout s) p i ≡ filled zero_terms (own_terms layout s) (p + 1) i
        same i true q = let l = ltb-true i p q in rw (q, lt-ltb i (p + 1) (omega arith)) refl
        same i false q = rw q (last i (ltb i (p + 1)) q refl)

  -- The count of producers with terms.
  pub with_none : length s < sheet_length layout → with_terms layout s ≡ 0
  unfolding with_terms
  with_none short =
      rw (lt-ltb (length s) (sheet_length layout) short, or-true (not (in_table layout.header))) refl

  pub with_no_table : in_table layout.header ≡ false → with_terms layout s ≡ 0
  unfolding with_terms
  with_no_table none = rw none refl

  pub with_all : sheet_length layout ≤ length s → in_table layout.header ≡ true
      → with_terms layout s ≡ min layout.header.producers 6
  unfolding with_terms
  with_all whole month = rw (month, le-ltb (length s) (sheet_length layout) whole) refl

-- All that have terms were tried.
pub tried_all : (layout : Layout) (s : List ℕ) {n : ℕ} {all : List Terms} {found : ℕ}
    → n ≡ with_terms layout s → Tried layout s n all found
    → (all ≡ listed (terms_of layout s) 6) × (found ≡ cond (high_hours layout s (with_terms layout s)) 9 0)
tried_all layout s e tried =
    let all = rw e at tried in
    (agrees_listed all.terms, all.number)

-- In a whole sheet whose header keeps to its limits every producer has its terms.
module _ (layout : Layout) (s : List ℕ) (w : HeaderLimits layout.header) (whole : sheet_length layout ≤ length s) where
  all_have : with_terms layout s ≡ layout.header.producers
  unfolding with_terms
  all_have =
      rw (
        is_in_table layout.header w.days_to w.weekday_from w.weekday_to,
        le-ltb (length s) (sheet_length layout) whole,
      )
      (omega (arith, w.producers))

  -- Where no hour has a power above the ceiling, its terms are the definitions'.
  pub known_first : high_hours layout s layout.header.producers ≡ false → (ts : List Terms)
      → ts ≡ listed (terms_of layout s) 6
      → Known (month_under layout s) 0 layout.header.producers ts
  unfolding high_hours
  known_first none ts e =
      let k : Agrees 6 no_terms (terms_of layout s) ts = listed_agrees e in
      agrees_as 6 no_terms (λ p l. own p (ltb p layout.header.producers) refl) (rw all_have at k)
    where
      own : (p : ℕ) (b : Bool) → ltb p layout.header.producers ≡ b
          → filled zero_terms (own_terms layout s) layout.header.producers p ≡ terms_below (month_under layout s) 0 layout.header.producers p
      own p true below =
          rw (below, any_clear _ layout.header.producers none p (ltb-true p layout.header.producers below))
      own p false past = rw past

  -- And those of all producers were tried.
  pub tried_first : {number : ℕ} → number ≡ cond (high_hours layout s (with_terms layout s)) 9 0
      → number ≡ cond (high_hours layout s layout.header.producers) 9 0
  tried_first e = rw all_have at e
