-- A row whose producer is worse, has the same rows, and keeps its attested capacity where they are more than
-- one, has no larger volume and no larger payment. Assumes nothing.
use mathlib.Core.Path.{◌≡◌, refl, sym, ap, ap₂, ◌∙◌}
use mathlib.Core.Bool.{Bool, true, false, not, ◌&&◌}
use mathlib.Core.List.{List}
use Prim.Native.Nat.{ℕ, ◌-◌, ◌≤◌, ◌<◌}
use native.Mathlib.Nat.{le_of_eq, mul-le-mul, mul-le-mul_right}
use native.Mathlib.Omega.{arith}
use borrow.Author.Tests.{eqb-true, eqb-false}
use lib.Dec.{eqb}
use Rattle.rules.specs.Range.{sum, when}
use Rattle.rules.specs.declared.Header.{Header}
use Rattle.rules.specs.declared.Ratio.{Ratio}
use Rattle.rules.specs.declared.Row.{Row}
use Rattle.rules.specs.Month.{Month, hours}
use Rattle.rules.specs.Cut.{
  owns,
  support,
  bilateral,
  sold,
  own_volume,
  own_support,
  own_bilateral,
  support_volume,
  bilateral_volume,
  summed_capacity,
  excess,
  after_cut,
  row_count,
  single,
}
use Rattle.rules.specs.Coefficients.{support_after, capacity_after, coefficients}
use Rattle.rules.specs.Rows.{begun, factors, running, days_covered, for_days, through, actual, payment}
use Rattle.laws.proofs.Range.{sum_same}
use Rattle.laws.proofs.Cut.{own_after, own_counted}
use Rattle.laws.proofs.Units.{rounded_mono, tenths_mono, millionths_mono, money_mono}
use Rattle.theorems.specs.Demand3.{WorseProducer}
use Rattle.theorems.proofs.SingleRow.{begun_down}
use Rattle.theorems.proofs.Producers.{NoMore, end, each, in_order_down, others_down}

running_mono : {ks ls : List ℕ} → NoMore ks ls → {x y : ℕ} → x ≤ y → running x ks ≤ running y ls
unfolding running
running_mono end h = h
running_mono (each k rest) h = running_mono rest (rounded_mono 1000000 (mul-le-mul h k))

days_mono : (covered : Ratio) {x y : ℕ} → x ≤ y → for_days covered x ≤ for_days covered y
unfolding for_days
days_mono covered h = rounded_mono covered.whole (mul-le-mul_right covered.part h)

through_mono : {ks ls : List ℕ} → NoMore ks ls → {days days' : ℕ} (r : Row) → days' ≡ days → {x y : ℕ} → x ≤ y
    → through x ks (days_covered days' r) ≤ through y ls (days_covered days r)
unfolding through
through_mono n {days} r e h = rw e (tenths_mono (days_mono (days_covered days r) (running_mono n h)))

-- The rows of producer p are the same in both months, and each row has the same producer.
pub record SameRowsOf (m m' : Month) (p : ℕ) : Type 0 where
  pub owner : (j : ℕ) → j < m.header.rows → (m'.row j).producer ≡ (m.row j).producer
  pub own : (j : ℕ) → j < m.header.rows → (m.row j).producer ≡ p → m'.row j ≡ m.row j

-- A figure of each of producer p's rows is the same.
abbrev SameOwn : Month → ℕ → (ℕ → ℕ) → (ℕ → ℕ) → Type 0
SameOwn m p v v' = (j : ℕ) → j < m.header.rows → (m.row j).producer ≡ p → v' j ≡ v j

-- What a row adds to a sum over a producer's own rows: the same in both months, where other rows add nothing.
own_same : (m m' : Month) (p : ℕ) → SameRowsOf m m' p → (v v' : ℕ → ℕ) → SameOwn m p v v'
    → (f : Bool → Row → ℕ → ℕ) → ((x : Row) (n : ℕ) → f false x n ≡ 0) → (j : ℕ) → j < m.header.rows
    → f (eqb (m'.row j).producer p) (m'.row j) (v' j) ≡ f (eqb (m.row j).producer p) (m.row j) (v j)
own_same m m' p r v v' same f nothing j l =
    ap (λ (x : ℕ). f (eqb x p) (m'.row j) (v' j)) (r.owner j l) ∙ go (eqb (m.row j).producer p) refl
  where
    go : (b : Bool) → eqb (m.row j).producer p ≡ b → f b (m'.row j) (v' j) ≡ f b (m.row j) (v j)
    go true q = ap₂ (f true) (r.own j l (eqb-true _ _ q)) (same j l (eqb-true _ _ q))
    go false q = nothing (m'.row j) (v' j) ∙ sym (nothing (m.row j) (v j))

-- Sums over its rows are the same: T and S, what stands before a row, and how many rows there are.
module _ (m m' : Month) (e : m'.header ≡ m.header) (p : ℕ) (r : SameRowsOf m m' p) where
  same_count : m'.header.rows ≡ m.header.rows
  same_count = ap (λ (h : Header). h.rows) e

  module _ (v v' : ℕ → ℕ) (same : SameOwn m p v v') where
    same_support : support_volume m' v' p ≡ support_volume m v p
    unfolding support_volume own_support owns support when
    same_support = sum_same _ _ same_count (own_same m m' p r v v' same (λ b x n. when (b && eqb x.consumer 255) n) (λ x n. refl))

    same_bilateral : bilateral_volume m' v' p ≡ bilateral_volume m v p
    unfolding bilateral_volume own_bilateral owns bilateral support when
    same_bilateral = sum_same _ _ same_count (own_same m m' p r v v' same (λ b x n. when (b && not (eqb x.consumer 255)) n) (λ x n. refl))

    same_summed : (m'.producer p).deductible ≡ (m.producer p).deductible
        → summed_capacity m' v' p ≡ summed_capacity m v p
    unfolding summed_capacity
    same_summed d = omega (arith, same_support, same_bilateral, d)

  same_sold : SameOwn m p (sold m) (sold m')
  same_sold j l own = ap (λ (x : Row). x.volume) (r.own j l own)

  same_before : (j : ℕ) → j < m.header.rows
      → sum (own_volume m' (sold m') p) j ≡ sum (own_volume m (sold m) p) j
  unfolding own_volume owns when
  same_before j l = sum_same _ _ refl (λ i q. own_same m m' p r (sold m) (sold m') same_sold (λ b x n. when b n) (λ x n. refl) i (omega arith))

  same_rows : row_count m' p ≡ row_count m p
  unfolding row_count owns when
  same_rows = sum_same _ _ same_count (own_same m m' p r (sold m) (sold m') same_sold (λ b x n. when b 1) (λ x n. refl))

  same_single : single m' p ≡ single m p
  unfolding single
  same_single = ap (λ (n : ℕ). eqb n 1) same_rows

-- The cut, where the producer is worse.
module _ (m m' : Month) (e : m'.header ≡ m.header) (p : ℕ) (r : SameRowsOf m m' p)
    (w : WorseProducer (hours m.header) (m.producer p) (m'.producer p)) where
  excess_is : excess m' p ≡ summed_capacity m (sold m) p - (m.producer p).own_needs - (m'.producer p).attested
  unfolding excess
  excess_is =
      omega (
        arith,
        same_summed m m' e p r (sold m) (sold m') (same_sold m m' e p r) w.deductible,
        w.own_needs,
      )

  cut_is : (j : ℕ) → j < m.header.rows → (m.row j).producer ≡ p
      → after_cut m' j ≡ (m.row j).volume - (excess m' p - sum (own_volume m (sold m) p) j)
  cut_is j l own =
      omega (
        arith,
        own_after m' p j (r.owner j l ∙ own),
        same_sold m m' e p r j l own,
        same_before m m' e p r j l,
      )

  -- A lower attested capacity leaves no more of a row.
  own_cut_down : (j : ℕ) → j < m.header.rows → (m.row j).producer ≡ p → after_cut m' j ≤ after_cut m j
  own_cut_down j l own =
      let more : excess m p ≤ excess m' p = unfold excess in omega (arith, excess_is, w.attested) in
      omega (arith, cut_is j l own, own_after m p j own, more)

  -- The same one leaves the same of each row, and so of T and S: no coefficient is higher.
  module _ (keeps : (m'.producer p).attested ≡ (m.producer p).attested) where
    same_cut : SameOwn m p (after_cut m) (after_cut m')
    same_cut j l own =
        let same : excess m' p ≡ excess m p = unfold excess in omega (arith, excess_is, keeps) in
        omega (arith, cut_is j l own, own_after m p j own, same)

    coefficients_down : NoMore (coefficients m' p) (coefficients m p)
    unfolding coefficients support_after capacity_after
    coefficients_down =
        in_order_down e (same_support m m' e p r _ _ same_cut) (same_summed m m' e p r _ _ same_cut w.deductible) w

-- One row. A producer with more than one row keeps its attested capacity.
module _ (m m' : Month) (e : m'.header ≡ m.header) (j : ℕ) (l : j < m.header.rows)
    (w : WorseProducer (hours m.header) (m.producer (m.row j).producer) (m'.producer (m.row j).producer))
    (r : SameRowsOf m m' (m.row j).producer) where
  abbrev p : ℕ
  p = (m.row j).producer

  this : m'.row j ≡ m.row j
  this = r.own j l refl

  pub cut_down : after_cut m' j ≤ after_cut m j
  cut_down = own_cut_down m m' e p r w j l refl

  module _ (keeps : 1 < row_count m p → (m'.producer p).attested ≡ (m.producer p).attested) where
    -- It is the single row, or the producer has more.
    kept : single m p ≡ false → (m'.producer p).attested ≡ (m.producer p).attested
    unfolding single
    kept q = keeps (omega (arith, own_counted m p j l refl, eqb-false (row_count m p) 1 q))

    -- What the product begins with is no larger, and neither is any coefficient after it.
    product_down : (begun m' p (after_cut m' j) ≤ begun m p (after_cut m j))
        × NoMore (factors m' p) (factors m p)
    product_down = go (single m p) refl
      where
        go : (b : Bool) → single m p ≡ b
            → (begun m' p (after_cut m' j) ≤ begun m p (after_cut m j)) × NoMore (factors m' p) (factors m p)
        go true q = (
          begun_down m m' e p q (same_single m m' e p r ∙ q) w j l refl this cut_down,
          unfold factors in rw (same_single m m' e p r, q) (others_down e w),
        )
        go false q = (
          unfold begun in rw (same_single m m' e p r, q) (millionths_mono cut_down),
          unfold factors in rw (same_single m m' e p r, q) (coefficients_down m m' e p r w (kept q)),
        )

    pub actual_down : actual m' j ≤ actual m j
    unfolding actual
    actual_down =
        rw this (through_mono product_down.1 (m.row j) (ap (λ (h : Header). h.days) e) product_down.0)

    pub payment_down : payment m' j ≤ payment m j
    unfolding payment
    payment_down = money_mono actual_down (le_of_eq (ap (λ (x : Row). x.price) this))
