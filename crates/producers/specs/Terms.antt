-- What a producer's rows are settled by: what is left to cut of them, and what they are multiplied by.
use Rattle.std.specs.Prelude.{ℕ, ◌-◌, ◌*◌, ◌≤◌, min, max, ◌≡◌, Bool, cond, not, ◌||◌, ltb, Option}
use Rattle.std.specs.Prelude.{List, [], ◌∷◌, length, replicate}
use Rattle.std.specs.Prelude.Option.{Some, None}
use Rattle.rules.specs.declared.Header.{Header}
use Rattle.rules.specs.declared.Layout.{Layout}
use Rattle.rules.specs.declared.Stated.{Stated}
use Rattle.rules.specs.declared.Ratio.{Ratio}
use Rattle.rules.specs.Month.{Producer, Month, hours}
use Rattle.rules.specs.Sheet.{sheet_length, producer_under, month_under}
use Rattle.rules.specs.Units.{one, hundredth, in_hundredths}
use Rattle.rules.specs.ControlHours.{control_average}
use Rattle.rules.specs.Bands.{band_of, thousandths}
use Rattle.rules.specs.Cut.{left_to_cut, single}
use Rattle.rules.specs.ControlTable.{in_table}
use Rattle.rules.specs.Coefficients.{share, met_over, exact_k4, k2, from_k5, coefficients}
use Rattle.rules.specs.Rows.{begun}
use Rattle.rules.specs.Refusals.{too_high}
use Rattle.rules.specs.Outcome.{within}
use Rattle.laws.specs.Bounds.{most_word}
use Rattle.laws.specs.ShortForm.{left_after_cut, kept, in_short}
use Rattle.laws.proofs.Arrays.{Agrees, filled}
use Rattle.units.specs.declared.Millionths.{Millionths}
use Rattle.units.specs.Sums.{tenths, millionths}
use Rattle.row_figures.specs.declared.Factors.{Factors}
use Rattle.sheet.specs.Whole.{stretch_in}
use Rattle.refusals_powers.specs.Powers.{high_powers}
use Rattle.hours.specs.declared.figures.HourFigures.{HourFigures}
use Rattle.producers.specs.declared.Terms.{Terms}

-- The largest part of a ratio whose millionths fit 64 bits.
abbrev pub most_part : ℕ
most_part = 18446744073709

-- n × D of k1, from the control average in hundredths and the deductible capacity in tenths. [Coefficients,
-- k1; Requests, 6]
abbrev pub penalty_from : ℕ → ℕ → ℕ
penalty_from average deductible =
    band_of (thousandths (average - in_hundredths deductible) (in_hundredths deductible)) * (average - in_hundredths deductible)

-- k1 to k10 in order, from a producer's stated figures, k1 and k4. [Coefficients]
abbrev pub ks_from : Header → Stated → ℕ → ℕ → List ℕ
ks_from h x k1 k4 =
    k1
    ∷ share (hours h - max x.upward x.downward) (hours h)
    ∷ x.k3
    ∷ k4
    ∷ share (hours h - x.plan) (hours h)
    ∷ x.k6
    ∷ x.k7
    ∷ x.k8
    ∷ x.k9
    ∷ x.k10
    ∷ []

-- What is met in a month at most, where no power is above the ceiling: 744 hours of 10,000.0. A single row's
-- fraction then fits 64 bits.
abbrev pub most_met : ℕ
most_met = 74400000

-- A single row's volume after the cut × k1 × k4, from n × D and k4, in its short form; nothing of a volume
-- above the ceiling. [Requests, 8]
unfoldable pub single_product : Bool → ℕ → ℕ → Ratio → ℕ
single_product support volume penalty k4 =
    cond (too_high volume) 0 (in_short (kept support volume penalty) k4)

-- What a single row of producer p begins with: what the definitions have for its volume after the cut;
-- nothing of a volume above the ceiling. [Requests, 8]
abbrev pub product_of : Month → ℕ → ℕ
product_of m p = cond (too_high (left_after_cut m p)) 0 (begun m p (left_after_cut m p))

-- What producer p's rows are multiplied by: a single row begins with its product, and has 1 in the place of
-- k1 and k4. [Rows; Requests, 8]
abbrev pub first_of : Month → ℕ → Option Millionths
first_of m p = cond (single m p) (Some (millionths (product_of m p))) None

-- k1 to k10 with given numbers in the place of k1 and k4. [Rows]
abbrev pub with_both : Header → Producer → ℕ → ℕ → List ℕ
with_both h p first fourth = first ∷ k2 h p ∷ p.k3 ∷ fourth ∷ from_k5 h p

abbrev pub ks_of : Month → ℕ → List ℕ
ks_of m p = cond (single m p) (with_both m.header (m.producer p) one one) (coefficients m p)

-- Those of a producer with a single row, and of one with more or none.
abbrev pub single_factors : Millionths → List ℕ → Factors
single_factors product ks = record { first = Some product; ks = ks }

abbrev pub shared_factors : List ℕ → Factors
shared_factors ks = record { first = None; ks = ks }

abbrev pub factors_of : Month → ℕ → Factors
factors_of m p = record { first = first_of m p; ks = ks_of m p }

-- Producer p when row j's turn comes. [Cut; Coefficients]
abbrev pub terms_at : Month → ℕ → ℕ → Terms
terms_at m p j = record { excess = tenths (left_to_cut m p j); by = factors_of m p }

-- Past the end of an array of terms.
abbrev pub no_terms : Terms
no_terms = record { excess = tenths 0; by = shared_factors [] }

-- In the array, where there is no producer: nothing to cut, and coefficients of 0.
abbrev pub zero_terms : Terms
zero_terms = record { excess = tenths 0; by = shared_factors (replicate 10 0) }

-- How many producers of a sheet have terms: at most six, and none in a month that the table of control
-- weekdays does not have or in a sheet that ends too soon.
unfoldable pub with_terms : Layout → List ℕ → ℕ
with_terms layout s = cond (not (in_table layout.header) || ltb (length s) (sheet_length layout)) 0 (min layout.header.producers 6)

-- The first n producers when row j's turn comes; past them there are none.
abbrev pub terms_below : Month → ℕ → ℕ → ℕ → Terms
terms_below m j n = filled zero_terms (λ p. terms_at m p j) n

-- In an array of six.
abbrev pub Known : Month → ℕ → ℕ → List Terms → Type 0
Known m j n terms = Agrees 6 no_terms (terms_below m j n) terms

-- Some power of producer p's hours is above the ceiling.
abbrev pub high_in : Layout → List ℕ → ℕ → Bool
high_in layout s p = high_powers (within (stretch_in layout (length s) p) s)

-- What the figures of producer p's hours are, where no power is: k4 before it is rounded, for a summed
-- capacity S, and the control average.
pub record HoursKnown (layout : Layout) (s : List ℕ) (p S : ℕ) (f : HourFigures) : Type 0 where
  pub k4 : met_over f.sums.met.0 f.sums.asked.0 ≡ exact_k4 layout.header (producer_under layout s p) S
  pub average : f.average.0 ≡ control_average hundredth layout.header (producer_under layout s p).outside_use
  pub few : f.average.0 ≤ 10 * most_word
  pub fits : f.sums.met.0 ≤ most_met

-- Producer p's terms before the first row; none where an hour has a power above the ceiling.
abbrev pub own_terms : Layout → List ℕ → ℕ → Terms
own_terms layout s p = cond (high_in layout s p) zero_terms (terms_at (month_under layout s) p 0)

-- All of them.
abbrev pub terms_of : Layout → List ℕ → ℕ → Terms
terms_of layout s = filled zero_terms (own_terms layout s) (with_terms layout s)
