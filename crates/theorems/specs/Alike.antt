-- Months that are alike: the same figures in every record that the counts let stand. What a month has past
-- its counts, no rule reads.
use Rattle.std.specs.Prelude.{ℕ, ◌<◌, ◌≡◌}
use Rattle.rules.specs.Month.{Producer, Month, hours}

-- Two producers with the same figures, in the first hours.
pub record SameProducer (hours : ℕ) (p p' : Producer) : Type 0 where
  pub attested : p'.attested ≡ p.attested
  pub deductible : p'.deductible ≡ p.deductible
  pub own_needs : p'.own_needs ≡ p.own_needs
  pub no_upward_bid : p'.no_upward_bid ≡ p.no_upward_bid
  pub no_downward_bid : p'.no_downward_bid ≡ p.no_downward_bid
  pub no_plan : p'.no_plan ≡ p.no_plan
  pub k3 : p'.k3 ≡ p.k3
  pub k6 : p'.k6 ≡ p.k6
  pub k7 : p'.k7 ≡ p.k7
  pub k8 : p'.k8 ≡ p.k8
  pub k9 : p'.k9 ≡ p.k9
  pub k10 : p'.k10 ≡ p.k10
  pub working : (i : ℕ) → i < hours → p'.working i ≡ p.working i
  pub possible : (i : ℕ) → i < hours → p'.possible i ≡ p.possible i
  pub outside_use : (i : ℕ) → i < hours → p'.outside_use i ≡ p.outside_use i

-- Two months with one header and the same producers, rows and consumers below its counts.
pub record Alike (m m' : Month) : Type 0 where
  pub header : m'.header ≡ m.header
  pub producer : (p : ℕ) → p < m.header.producers
      → SameProducer (hours m.header) (m.producer p) (m'.producer p)
  pub row : (j : ℕ) → j < m.header.rows → m'.row j ≡ m.row j
  pub consumer : (c : ℕ) → c < m.header.consumers → m'.consumer c ≡ m.consumer c
