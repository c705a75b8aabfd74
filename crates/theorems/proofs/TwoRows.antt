-- The two months of specs/TwoRows, computed: the second is worse, and has a row of larger volume. Assumes
-- nothing.
use mathlib.Core.Path.{refl}
use Prim.Native.Nat.{ℕ, zero, suc, zero-le, ◌≤◌, ◌<◌}
use native.Mathlib.Nat.{le_refl}
use native.Mathlib.Omega.{arith}
use Rattle.rules.specs.Units.{tenths_ceiling}
use Rattle.rules.specs.Month.{hours}
use Rattle.rules.specs.Limits.{ProducerLimits, RowLimits, MonthLimits}
use Rattle.rules.specs.Samples.{month}
use Rattle.rules.specs.Open.{settlement}
use Rattle.theorems.specs.Demand3.{WorseProducer, Worse}
use Rattle.theorems.specs.TwoRows.{two_rows, TwoRowFigures, NeverRises}
use Rattle.theorems.proofs.Producers.{less_attested}

pub figures : TwoRowFigures
unfolding settlement two_rows
figures =
    record { k4_of_100 = refl; second_of_100 = refl; first_cut = refl; k4_of_50 = refl; second_of_50 = refl }

worse : Worse (two_rows 1000) (two_rows 500)
unfolding two_rows month
worse = record { producer = only; row = λ j l. refl; consumer = λ c l. absurd (omega (arith, l)) }
  where
    only : (p : ℕ) → p < 1 → WorseProducer (hours (two_rows 1000).header) ((two_rows 1000).producer p) ((two_rows 500).producer p)
    only zero l = less_attested ((two_rows 1000).producer 0) 500 (omega arith)
    only (suc p) l = absurd (omega (arith, l))

-- Both keep to every limit.
within : (attested : ℕ) → attested ≤ tenths_ceiling → MonthLimits (two_rows attested)
unfolding two_rows month
within attested low =
    record {
      header =
          record {
            days_from = omega arith;
            days_to = omega arith;
            weekday_from = omega arith;
            weekday_to = omega arith;
            holidays = omega arith;
            producers = omega arith;
            rows = omega arith;
            consumers = zero-le;
          };
      producer = only;
      row = each;
      consumer = λ c l. absurd (omega (arith, l));
    }
  where
    only : (p : ℕ) → p < 1 → ProducerLimits (two_rows attested).header ((two_rows attested).producer p)
    only zero l =
        record {
          no_upward_bid = zero-le;
          no_downward_bid = zero-le;
          no_plan = zero-le;
          k3 = le_refl _;
          k6 = le_refl _;
          k7 = le_refl _;
          k8 = le_refl _;
          k9 = le_refl _;
          k10 = le_refl _;
          attested = low;
          deductible = zero-le;
          own_needs = zero-le;
          working = λ i b. omega arith;
          possible = λ i b. omega arith;
          outside_use = λ i b. zero-le;
        }
    only (suc p) l = absurd (omega (arith, l))

    good : RowLimits (two_rows attested).header ((two_rows attested).row 0)
    good =
        record {
          volume = omega arith;
          producer = omega arith;
          consumer = λ n. absurd (n refl);
          price = omega arith;
          first_from = omega arith;
          last_from = omega arith;
          last_to = omega arith;
        }

    each : (j : ℕ) → j < 2 → RowLimits (two_rows attested).header ((two_rows attested).row j)
    each zero l = good
    each (suc zero) l = good
    each (suc (suc j)) l = absurd (omega (arith, l))

pub rises : NeverRises → ⊥
rises never =
    let below = never (two_rows 1000) (two_rows 500) (unfold two_rows month in refl) (within 1000 (omega arith)) (within 500 (omega arith)) worse 1 (unfold two_rows month in omega arith) in
    omega (arith, below, figures.second_of_100, figures.second_of_50)
