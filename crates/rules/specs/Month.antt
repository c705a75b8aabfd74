-- A month as its sheet states it: named figures, with producers, rows, consumers and hours counted from 0.
-- Capacities, powers, volumes and peaks are in tenths of a megawatt, coefficients in millionths, prices in
-- tiyn per megawatt and month. Where a figure stands among the sheet's bytes is said in Sheet and nowhere
-- else.
use Rattle.std.specs.Prelude.{ℕ, ◌*◌}
-- The header's month and counts, a contract row, a consumer: the structs Header, Row and Consumer of
-- src/lib.rt, which code shares. [Units and the sheet, Header, Rows, Consumers; p. 59]
pub use Rattle.rules.specs.declared.Header.{Header}
pub use Rattle.rules.specs.declared.Row.{Row}
pub use Rattle.rules.specs.declared.Consumer.{Consumer}

-- A producer: attested capacity, deductible capacity, greatest own needs; hours without an upward bid,
-- without a downward bid, without a plan; the given coefficients; and for each hour of the month working,
-- possible and outside-use power. [Units and the sheet, Producers; p. 2, 3), 10), 9) and 8), p. 40, 41]
pub record Producer : Type 0 where
  pub attested : ℕ
  pub deductible : ℕ
  pub own_needs : ℕ
  pub no_upward_bid : ℕ
  pub no_downward_bid : ℕ
  pub no_plan : ℕ
  pub k3 : ℕ
  pub k6 : ℕ
  pub k7 : ℕ
  pub k8 : ℕ
  pub k9 : ℕ
  pub k10 : ℕ
  pub working : ℕ → ℕ
  pub possible : ℕ → ℕ
  pub outside_use : ℕ → ℕ

-- The month: its header, and each producer, row and consumer by its place. [Units and the sheet]
pub record Month : Type 0 where
  pub header : Header
  pub producer : ℕ → Producer
  pub row : ℕ → Row
  pub consumer : ℕ → Consumer

-- H, the hours of the month. [Coefficients]
abbrev pub hours : Header → ℕ
hours h = 24 * h.days

-- The month with other consumers. [Requests, 1 and 3]
abbrev pub with_consumers : Month → (ℕ → Consumer) → Month
with_consumers m consumer =
    record { header = m.header; producer = m.producer; row = m.row; consumer = consumer }
