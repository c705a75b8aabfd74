-- Request 6 as statements: k1 as it was before, from an average in tenths, and averages for which nothing
-- changed. [Requests, 6]
use Rattle.std.specs.Prelude.{ℕ, zero, suc, ◌-◌, ◌*◌, ◌≡◌}
use Rattle.rules.specs.declared.Header.{Header}
use Rattle.rules.specs.declared.Ratio.{Ratio}
use Rattle.rules.specs.Units.{tenth, hundredth}
use Rattle.rules.specs.Month.{Producer}
use Rattle.rules.specs.ControlHours.{control_average}
use Rattle.rules.specs.Bands.{band_of, thousandths}
use Rattle.rules.specs.Coefficients.{ratio, millionths_of}

-- D of k1 in tenths, from an average rounded to a tenth; n × D, in hundredths of a megawatt; k1 from it.
unfoldable pub tenths_over : Header → Producer → ℕ
tenths_over h p = control_average tenth h p.outside_use - p.deductible

unfoldable pub tenths_penalty : Header → Producer → ℕ
tenths_penalty h p = band_of (thousandths (tenths_over h p) p.deductible) * tenths_over h p

unfoldable pub less_tenths_penalty : ℕ → ℕ → Ratio
less_tenths_penalty zero zero = ratio 1 1
less_tenths_penalty zero (suc penalty) = ratio 0 1
less_tenths_penalty (suc T) penalty = ratio (10 * suc T - penalty) (10 * suc T)

unfoldable pub k1_by_tenths : Header → Producer → ℕ → ℕ
k1_by_tenths h p T = millionths_of (less_tenths_penalty T (tenths_penalty h p))

-- A producer's control average, rounded to a hundredth, is so many tenths.
abbrev pub WholeTenths : Header → Producer → ℕ → Type 0
WholeTenths h p tenths = control_average hundredth h p.outside_use ≡ tenths * 10
