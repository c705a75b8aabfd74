-- Demand 3 as statements: the relation of two sheets, what it must do to their results, and the order of a
-- row's volumes.
use Rattle.std.specs.Prelude.{ℕ, ◌≤◌, ◌<◌, ◌≡◌, List, take}
use Rattle.rules.specs.declared.Header.{Header}
use Rattle.rules.specs.declared.Consumer.{Consumer}
use Rattle.rules.specs.Month.{Producer, Month, hours}
use Rattle.rules.specs.Cut.{row_count}
use Rattle.rules.specs.Sheet.{header_width, month_of}
use Rattle.rules.specs.Result.{read_row, read_consumer, read_totals}

-- The second producer is the first, or worse: with less attested capacity, less working power in an hour, a
-- lower given coefficient, more outside use in an hour, or more hours without a bid or a plan. All else is
-- the same.
pub record WorseProducer (hours : ℕ) (p p' : Producer) : Type 0 where
  pub attested : p'.attested ≤ p.attested
  pub deductible : p'.deductible ≡ p.deductible
  pub own_needs : p'.own_needs ≡ p.own_needs
  pub no_upward_bid : p.no_upward_bid ≤ p'.no_upward_bid
  pub no_downward_bid : p.no_downward_bid ≤ p'.no_downward_bid
  pub no_plan : p.no_plan ≤ p'.no_plan
  pub k3 : p'.k3 ≤ p.k3
  pub k6 : p'.k6 ≤ p.k6
  pub k7 : p'.k7 ≤ p.k7
  pub k8 : p'.k8 ≤ p.k8
  pub k9 : p'.k9 ≤ p.k9
  pub k10 : p'.k10 ≤ p.k10
  pub working : (i : ℕ) → i < hours → p'.working i ≤ p.working i
  pub possible : (i : ℕ) → i < hours → p'.possible i ≡ p.possible i
  pub outside_use : (i : ℕ) → i < hours → p.outside_use i ≤ p'.outside_use i

-- The second consumer is the first, or worse: with a higher peak, more mining days, or a higher z. All else
-- is the same.
pub record WorseConsumer (c c' : Consumer) : Type 0 where
  pub contract : c'.contract ≡ c.contract
  pub peak : c.peak ≤ c'.peak
  pub supplier : c.supplier ≤ c'.supplier
  pub grid : c.grid ≤ c'.grid
  pub z : c.z ≤ c'.z
  pub price : c'.price ≡ c.price

-- Every producer and consumer of the second month is that of the first, or worse; every row is the same.
pub record Worse (m m' : Month) : Type 0 where
  pub producer : (p : ℕ) → p < m.header.producers
      → WorseProducer (hours m.header) (m.producer p) (m'.producer p)
  pub row : (j : ℕ) → j < m.header.rows → m'.row j ≡ m.row j
  pub consumer : (c : ℕ) → c < m.header.consumers → WorseConsumer (m.consumer c) (m'.consumer c)

-- A producer with more than one row keeps its attested capacity; any other may have less. [Requests, 8]
abbrev pub MoreRowsKeepAttested : Month → Month → Type 0
MoreRowsKeepAttested m m' = (p : ℕ) → p < m.header.producers → 1 < row_count m p → (m'.producer p).attested ≡ (m.producer p).attested

-- Each producer has at most one row. [Requests, 8]
abbrev pub AtMostOneRow : Month → Type 0
AtMostOneRow m = (p : ℕ) → p < m.header.producers → row_count m p ≤ 1

-- Every producer keeps its attested capacity. [Requests, 8]
abbrev pub AllKeepAttested : Month → Month → Type 0
AllKeepAttested m m' = (p : ℕ) → p < m.header.producers → (m'.producer p).attested ≡ (m.producer p).attested

-- Two sheets with the same header, the second of a month that is the same or worse.
pub record WorseSheet (s s' : List ℕ) : Type 0 where
  pub header : take header_width s' ≡ take header_width s
  pub figures : Worse (month_of s) (month_of s')

-- The second result pays no producer more and charges no consumer less, in any row, for any consumer, or in
-- all. Each figure is the one that is read from the result's bytes at its place.
pub record NoBetter (h : Header) (out out' : List ℕ) : Type 0 where
  pub row_actual : (j : ℕ) → j < h.rows → (read_row out' j).actual ≤ (read_row out j).actual
  pub row_payment : (j : ℕ) → j < h.rows → (read_row out' j).payment ≤ (read_row out j).payment
  pub consumer_volume : (c : ℕ) → c < h.consumers
      → (read_consumer h out c).volume ≤ (read_consumer h out' c).volume
  pub consumer_charge : (c : ℕ) → c < h.consumers
      → (read_consumer h out c).charge ≤ (read_consumer h out' c).charge
  pub total_paid : (read_totals h out').paid ≤ (read_totals h out).paid
  pub total_charged : (read_totals h out).charged ≤ (read_totals h out').charged

-- Every row of a result: actual volume ≤ volume after the cut ≤ the volume that the sheet states.
pub record OnlyCut (s out : List ℕ) : Type 0 where
  pub actual : (j : ℕ) → j < (month_of s).header.rows → (read_row out j).actual ≤ (read_row out j).after_cut
  pub after_cut : (j : ℕ) → j < (month_of s).header.rows
      → (read_row out j).after_cut ≤ ((month_of s).row j).volume
