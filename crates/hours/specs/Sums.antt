-- k4's sums over the hours, as the struct that carries them.
use Rattle.std.specs.Prelude.{ℕ, ◌*◌, min, max, Bool, cond, ◌&&◌, List, length, Result}
use Rattle.std.specs.Prelude.Result.{Ok, Err}
use Rattle.rules.specs.declared.Series.{Series}
use Rattle.rules.specs.declared.Refusal.{Refusal}
use Rattle.rules.specs.Range.{sum, any}
use Rattle.rules.specs.Refusals.{too_high}
use Rattle.rules.specs.Sheet.{series}
use Rattle.units.specs.Sums.{tenths}
use Rattle.hours.specs.declared.k4.K4.{K4}
use Rattle.hours.specs.Series.{stands, power_in}

-- m of an hour, by possible power and S; and what is met of it, by working power. [Coefficients, k4]
abbrev pub asked_of : (ℕ → ℕ) → ℕ → ℕ → ℕ
asked_of possible S i = min S (possible i)

abbrev pub met_of : (ℕ → ℕ) → (ℕ → ℕ) → ℕ → ℕ → ℕ
met_of working possible S i = min (asked_of possible S i) (working i)

-- Of no hours.
abbrev pub no_sums : K4
no_sums = record { asked = tenths 0; met = tenths 0 }

-- The sum of m over n hours, and the sum of what is met of it.
abbrev pub k4_of : (ℕ → ℕ) → (ℕ → ℕ) → ℕ → ℕ → K4
k4_of working possible S n =
    record { asked = tenths (sum (asked_of possible S) n); met = tenths (sum (met_of working possible S) n) }

-- Of two series in a part; nothing where the part ends before the powers of so many days do.
unfoldable pub k4_in : List ℕ → Series → Series → ℕ → ℕ → K4
k4_in part working possible days S =
    cond (stands (length part) working (24 * days) && stands (length part) possible (24 * days))
    (k4_of (power_in part working) (power_in part possible) S (24 * days))
    no_sums

-- Some power of hour i is above the ceiling, of hours that stand some bytes apart: the working powers begin
-- at the part's front.
abbrev pub hour_high : List ℕ → ℕ → ℕ → ℕ → ℕ → Bool
hour_high part step possible outside i =
    too_high
    (max
    (max (power_in part (series 0 step) i) (power_in part (series possible step) i))
    (power_in part (series outside step) i))

-- k4's sums of n such hours, or number 9.
unfoldable pub sums_of_hours : List ℕ → ℕ → ℕ → ℕ → ℕ → ℕ → Result K4 Refusal
sums_of_hours part step possible outside n S =
    cond (any (hour_high part step possible outside) n)
    (Err Refusal.AboveCeiling)
    (Ok (k4_of (power_in part (series 0 step)) (power_in part (series possible step)) S n))
