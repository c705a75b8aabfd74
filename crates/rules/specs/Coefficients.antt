-- Coefficients of a producer, in millionths, each rounded. T and S are its support volume and summed capacity
-- after the cut.
use Rattle.std.specs.Prelude.{ℕ, zero, suc, ◌-◌, ◌*◌, min, max, List, [], ◌∷◌}
use Rattle.rules.specs.Range.{sum}
use Rattle.rules.specs.Units.{rounded, one, hundredth, in_hundredths, in_thousandths}
use Rattle.rules.specs.Month.{Header, Producer, Month, hours}
use Rattle.rules.specs.ControlHours.{control_average}
use Rattle.rules.specs.Bands.{band_of, thousandths}
use Rattle.rules.specs.Cut.{after_cut, support_volume, summed_capacity}
-- A part of a whole, a coefficient before it is rounded: the struct Ratio of src/lib.rt.
pub use Rattle.rules.specs.declared.Ratio.{Ratio}

-- A part of a whole as a coefficient. [Coefficients]
unfoldable pub share : ℕ → ℕ → ℕ
share part whole = rounded (part * one) whole

-- A part over a whole.
abbrev pub ratio : ℕ → ℕ → Ratio
ratio part whole = record { part = part; whole = whole }

-- A ratio as a coefficient: in millionths, rounded. [Coefficients]
unfoldable pub millionths_of : Ratio → ℕ
millionths_of r = share r.part r.whole

-- D of k1, in hundredths: the control average of outside use less deductible, not below 0. [Coefficients, k1;
-- Requests, 6; A2 p. 1]
unfoldable pub overuse : Header → Producer → ℕ
overuse h p = control_average hundredth h p.outside_use - in_hundredths p.deductible

-- n × D of k1: n is the band of D over deductible, in tenths, so the product is in thousandths of a megawatt.
-- [Coefficients, k1; Requests, 6; A2 p. 1]
unfoldable pub penalty : Header → Producer → ℕ
penalty h p = band_of (thousandths (overuse h p) (in_hundredths p.deductible)) * overuse h p

-- 1 - n × D / T, not below 0. Where T is 0: 1 when n × D is 0, otherwise 0. [Coefficients, k1; A2 p. 1]
unfoldable pub less_penalty : ℕ → ℕ → Ratio
less_penalty zero zero = ratio 1 1
less_penalty zero (suc penalty) = ratio 0 1
less_penalty (suc T) penalty = ratio (in_thousandths (suc T) - penalty) (in_thousandths (suc T))

-- k1 before it is rounded: outside use beyond the deductible. [Coefficients, k1; A2 p. 1]
unfoldable pub exact_k1 : Header → Producer → ℕ → Ratio
exact_k1 h p T = less_penalty T (penalty h p)

-- k1. [Coefficients, k1; A2 p. 1]
unfoldable pub k1 : Header → Producer → ℕ → ℕ
k1 h p T = millionths_of (exact_k1 h p T)

-- k2: H less the larger of the two bid counts, over H. [Coefficients, k2; A2 p. 2]
unfoldable pub k2 : Header → Producer → ℕ
k2 h p = share (hours h - max p.no_upward_bid p.no_downward_bid) (hours h)

-- m of k4, in its hourly form: the smaller of S and possible power. [Coefficients, k4; A2 p. 4]
unfoldable pub asked : Producer → ℕ → ℕ → ℕ
asked p S hour = min S (p.possible hour)

-- What k4 counts as met in an hour: the smaller of m and working power. [Coefficients, k4; A2 p. 4]
unfoldable pub met : Producer → ℕ → ℕ → ℕ
met p S hour = min (asked p S hour) (p.working hour)

-- What is met over what is asked; 1 where nothing is asked. [Coefficients, k4]
unfoldable pub met_over : ℕ → ℕ → Ratio
met_over met zero = ratio 1 1
met_over met (suc asked) = ratio met (suc asked)

-- k4 before it is rounded: the sum of what is met over the sum of m. [Coefficients, k4; A2 p. 4]
unfoldable pub exact_k4 : Header → Producer → ℕ → Ratio
exact_k4 h p S = met_over (sum (met p S) (hours h)) (sum (asked p S) (hours h))

-- k4. [Coefficients, k4; A2 p. 4]
unfoldable pub k4 : Header → Producer → ℕ → ℕ
k4 h p S = millionths_of (exact_k4 h p S)

-- k5: H less the hours without a plan, over H. [Coefficients, k5; A2 p. 5]
unfoldable pub k5 : Header → Producer → ℕ
k5 h p = share (hours h - p.no_plan) (hours h)

-- k5 to k10. [Rows; p. 43]
unfoldable pub from_k5 : Header → Producer → List ℕ
from_k5 h p = k5 h p ∷ p.k6 ∷ p.k7 ∷ p.k8 ∷ p.k9 ∷ p.k10 ∷ []

-- k1 to k10, in the order in which a row's volume is multiplied by them where its producer has more than one
-- row. [Rows; p. 43]
unfoldable pub in_order : Header → Producer → ℕ → ℕ → List ℕ
in_order h p T S = k1 h p T ∷ k2 h p ∷ p.k3 ∷ k4 h p S ∷ from_k5 h p

-- All but k1 and k4, in that order. [Requests, 8]
unfoldable pub others : Header → Producer → List ℕ
others h p = k2 h p ∷ p.k3 ∷ from_k5 h p

-- T and S of producer p in a month, after the cut: k1 and k4 are of these. [Cut; Requests, 8]
unfoldable pub support_after : Month → ℕ → ℕ
support_after m p = support_volume m (after_cut m) p

unfoldable pub capacity_after : Month → ℕ → ℕ
capacity_after m p = summed_capacity m (after_cut m) p

-- The coefficients of producer p in a month. [Cut, Coefficients; Requests, 8]
unfoldable pub coefficients : Month → ℕ → List ℕ
coefficients m p = in_order m.header (m.producer p) (support_after m p) (capacity_after m p)
