-- Months written out, to be computed: each builder takes its figures in the sheet's order.
use Rattle.std.specs.Prelude.{ℕ, ◌%◌, cond, List, [], ◌∷◌, length, get_or, eqb, ltb}
use Rattle.rules.specs.Units.{one}
use Rattle.rules.specs.Month.{Producer, Row, Consumer, Month}
use Rattle.rules.specs.Coefficients as Coefficients

-- Attested, deductible, own needs; hours without an upward bid, a downward bid, a plan; k3 and k6 to k10;
-- working, possible, outside use.
abbrev pub producer : ℕ → ℕ → ℕ → ℕ → ℕ → ℕ → List ℕ → (ℕ → ℕ) → (ℕ → ℕ) → (ℕ → ℕ) → Producer
producer attested deductible own_needs up down plan given working possible outside =
    record {
      attested = attested;
      deductible = deductible;
      own_needs = own_needs;
      no_upward_bid = up;
      no_downward_bid = down;
      no_plan = plan;
      k3 = get_or given 0 one;
      k6 = get_or given 1 one;
      k7 = get_or given 2 one;
      k8 = get_or given 3 one;
      k9 = get_or given 4 one;
      k10 = get_or given 5 one;
      working = working;
      possible = possible;
      outside_use = outside;
    }

-- First and last day; producer, consumer, volume, price. The month's days are not asked.
abbrev pub days_row : ℕ → ℕ → ℕ → ℕ → ℕ → ℕ → ℕ → Row
days_row first last p c volume price days =
    record { producer = p; consumer = c; volume = volume; price = price; first = first; last = last }

-- Producer, consumer, volume, price: a row that covers a month of so many days.
abbrev pub row : ℕ → ℕ → ℕ → ℕ → ℕ → Row
row p c volume price days = days_row 1 days p c volume price days

-- Contract volume, peak, T'', T''', z, price.
abbrev pub consumer : ℕ → ℕ → ℕ → ℕ → ℕ → ℕ → Consumer
consumer contract peak supplier grid z price =
    record { contract = contract; peak = peak; supplier = supplier; grid = grid; z = z; price = price }

-- Days, weekday of day 1, holidays; the producers, rows (each told the month's days) and consumers. Past the
-- last of each stands one that no sum may count and no sheet may have: attested 10,000.1, volume 10,000.1, z
-- 0.9.
unfoldable pub month : ℕ → ℕ → ℕ → List Producer → List (ℕ → Row) → List Consumer → Month
month days weekday holidays ps rs cs =
    record {
      header =
          record {
            days = days;
            weekday = weekday;
            holidays = holidays;
            producers = length ps;
            rows = length rs;
            consumers = length cs;
          };
      producer = λ p. get_or ps p (producer 100001 0 0 0 0 0 [] (λ i. 0) (λ i. 0) (λ i. 0));
      row = λ j. get_or rs j (row 0 0 100001 1000) days;
      consumer = λ c. get_or cs c (consumer 1000 1000 0 0 9 1000);
    }

-- The same figure in every hour; one figure in an hour of each day and another in the rest; one figure in the
-- first hours of the month.
abbrev pub every : ℕ → ℕ → ℕ
every v i = v

abbrev pub at_hour : ℕ → ℕ → (ℕ → ℕ) → ℕ → ℕ
at_hour hour v rest i = cond (eqb (i % 24) hour) v (rest i)

abbrev pub first_hours : ℕ → ℕ → (ℕ → ℕ) → ℕ → ℕ
first_hours n v rest i = cond (ltb i n) v (rest i)

-- The coefficients of a month's first producer.
abbrev pub k1 : Month → ℕ
k1 m = Coefficients.k1 m.header (m.producer 0) (Coefficients.support_after m 0)

abbrev pub k2 : Month → ℕ
k2 m = Coefficients.k2 m.header (m.producer 0)

abbrev pub k4 : Month → ℕ
k4 m = Coefficients.k4 m.header (m.producer 0) (Coefficients.capacity_after m 0)

abbrev pub k5 : Month → ℕ
k5 m = Coefficients.k5 m.header (m.producer 0)

-- A figure of the definitions, and what it should be.
pub record Figure : Type 0 where
  pub is : ℕ
  pub should : ℕ

abbrev pub figure : ℕ → ℕ → Figure
figure a b = record { is = a; should = b }

-- The figures of a list that are not what they should be.
unfoldable pub wrong : List Figure → List Figure
wrong [] = []
wrong (f ∷ fs) = cond (eqb f.is f.should) (wrong fs) (f ∷ wrong fs)
