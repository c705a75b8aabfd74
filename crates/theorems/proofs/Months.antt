-- Demand 3 over months, where a producer with more than one row keeps its attested capacity. Assumes nothing.
use mathlib.Core.Path.{◌≡◌, sym, ap}
use Prim.Native.Nat.{ℕ, ◌≤◌, ◌<◌}
use Rattle.rules.specs.declared.Header.{Header}
use Rattle.rules.specs.declared.Row.{Row}
use Rattle.rules.specs.Month.{Month}
use Rattle.rules.specs.Limits.{MonthLimits}
use Rattle.rules.specs.Cut.{support, bilateral}
use Rattle.rules.specs.Rows.{actual, payment}
use Rattle.rules.specs.Consumers.{credited, credit, volume, charge}
use Rattle.rules.specs.Totals.{total_paid, total_charged}
use Rattle.laws.proofs.Range.{sum_mono, when_mono}
use Rattle.theorems.specs.Demand3.{Worse, MoreRowsKeepAttested}
use Rattle.theorems.proofs.Rows as Rows
use Rattle.theorems.proofs.Consumers as Consumers

pub own_rows_same : {m m' : Month} → Worse m m' → (p : ℕ) → Rows.SameRowsOf m m' p
own_rows_same w p =
    record { owner = λ j l. ap (λ (r : Row). r.producer) (w.row j l); own = λ j l q. w.row j l }

module _ (m m' : Month) (e : m'.header ≡ m.header) (limits : MonthLimits m) (w : Worse m m') (keeps : MoreRowsKeepAttested m m') where
  pub actual_down : (j : ℕ) → j < m.header.rows → actual m' j ≤ actual m j
  actual_down j l =
      let b = (limits.row j l).producer in
      Rows.actual_down m m' e j l (w.producer _ b) (own_rows_same w _) (keeps _ b)

  pub payment_down : (j : ℕ) → j < m.header.rows → payment m' j ≤ payment m j
  payment_down j l =
      let b = (limits.row j l).producer in
      Rows.payment_down m m' e j l (w.producer _ b) (own_rows_same w _) (keeps _ b)

  pub credit_down : (c : ℕ) → credit m' c ≤ credit m c
  unfolding credit credited bilateral support
  credit_down c =
      sum_mono _ _ (ap (λ (h : Header). h.rows) e) (λ j l. rw (w.row j l) (when_mono _ (actual_down j l)))

  pub volume_up : (c : ℕ) → c < m.header.consumers → volume m c ≤ volume m' c
  volume_up c l = Consumers.volume_up m m' e c (w.consumer c l) (credit_down c)

  pub charge_up : (c : ℕ) → c < m.header.consumers → charge m c ≤ charge m' c
  charge_up c l = Consumers.charge_up m m' e c (w.consumer c l) (credit_down c)

  pub paid_down : total_paid m' ≤ total_paid m
  unfolding total_paid
  paid_down = sum_mono (payment m') (payment m) (ap (λ (h : Header). h.rows) e) payment_down

  pub charged_up : total_charged m ≤ total_charged m'
  unfolding total_charged
  charged_up =
      sum_mono (charge m) (charge m') (ap (λ (h : Header). h.consumers) (sym e))
      (λ c l. charge_up c (rw (ap (λ (h : Header). h.consumers) (sym e)) l))
