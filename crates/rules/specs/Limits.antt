-- The limits that an accepted sheet keeps to (document 01, When a sheet is turned down), each by name, with
-- the number of the refusal that guards it.
use Rattle.std.specs.Prelude.{ℕ, ◌^◌, ◌≤◌, ◌<◌, ◌≡◌, List, length}
use Rattle.rules.specs.Units.{tenths_ceiling, tiyn_ceiling, one}
use Rattle.rules.specs.Month.{Header, Producer, Row, Consumer, Month, hours}
use Rattle.rules.specs.Sheet.{
  header_width,
  length_field,
  version,
  header_of,
  layout_of,
  sheet_length,
  month_of,
}
use Rattle.rules.specs.Result.{result_length}

-- Numbers 4 and 5. No holiday stands past the month's end: the bits are below 2^days.
pub record HeaderLimits (h : Header) : Type 0 where
  pub days_from : 28 ≤ h.days
  pub days_to : h.days ≤ 31
  pub weekday_from : 1 ≤ h.weekday
  pub weekday_to : h.weekday ≤ 7
  pub holidays : h.holidays < 2 ^ h.days
  pub producers : h.producers ≤ 6
  pub rows : h.rows ≤ 32
  pub consumers : h.consumers ≤ 32

-- Numbers 8 (hours and given coefficients) and 9 (capacities and powers).
pub record ProducerLimits (h : Header) (p : Producer) : Type 0 where
  pub no_upward_bid : p.no_upward_bid ≤ hours h
  pub no_downward_bid : p.no_downward_bid ≤ hours h
  pub no_plan : p.no_plan ≤ hours h
  pub k3 : p.k3 ≤ one
  pub k6 : p.k6 ≤ one
  pub k7 : p.k7 ≤ one
  pub k8 : p.k8 ≤ one
  pub k9 : p.k9 ≤ one
  pub k10 : p.k10 ≤ one
  pub attested : p.attested ≤ tenths_ceiling
  pub deductible : p.deductible ≤ tenths_ceiling
  pub own_needs : p.own_needs ≤ tenths_ceiling
  pub working : (i : ℕ) → i < hours h → p.working i ≤ tenths_ceiling
  pub possible : (i : ℕ) → i < hours h → p.possible i ≤ tenths_ceiling
  pub outside_use : (i : ℕ) → i < hours h → p.outside_use i ≤ tenths_ceiling

-- Numbers 9 (volume), 10 (references), 11 (price) and 18 (days).
pub record RowLimits (h : Header) (r : Row) : Type 0 where
  pub volume : r.volume ≤ tenths_ceiling
  pub producer : r.producer < h.producers
  pub consumer : (r.consumer ≡ 255 → ⊥) → r.consumer < h.consumers
  pub price : r.price ≤ tiyn_ceiling
  pub first_from : 1 ≤ r.first
  pub last_from : r.first ≤ r.last
  pub last_to : r.last ≤ h.days

-- Numbers 9 (contract volume and peak), 11 (price) and 12 (mining days and z).
pub record ConsumerLimits (h : Header) (c : Consumer) : Type 0 where
  pub contract : c.contract ≤ tenths_ceiling
  pub peak : c.peak ≤ tenths_ceiling
  pub price : c.price ≤ tiyn_ceiling
  pub supplier : c.supplier ≤ h.days
  pub grid : c.grid ≤ h.days
  pub z_from : 10 ≤ c.z
  pub z_to : c.z ≤ 100

-- A month whose header, producers, rows and consumers keep to theirs.
pub record MonthLimits (m : Month) : Type 0 where
  pub header : HeaderLimits m.header
  pub producer : (p : ℕ) → p < m.header.producers → ProducerLimits m.header (m.producer p)
  pub row : (j : ℕ) → j < m.header.rows → RowLimits m.header (m.row j)
  pub consumer : (c : ℕ) → c < m.header.consumers → ConsumerLimits m.header (m.consumer c)

-- Numbers 1, 2, 3, 4 and 5, and 6: what a sheet keeps to whose hours can be handed back.
pub record FormLimits (s : List ℕ) : Type 0 where
  pub whole_header : header_width ≤ length s
  pub length_told : length_field s ≡ length s
  pub version_from : 1 ≤ version s
  pub version_to : version s ≤ 3
  pub header : HeaderLimits (header_of s)
  pub length_right : length_field s ≡ sheet_length (layout_of s)

-- All numbers, of a sheet, a result of so many bytes and a result buffer of so many; number 7 is enough-room.
pub record LimitsFor (needed : ℕ) (s : List ℕ) (room : ℕ) : Type 0 where
  pub form : FormLimits s
  pub enough_room : needed ≤ room
  pub month : MonthLimits (month_of s)

-- Those of the settlement.
abbrev pub SheetLimits : List ℕ → ℕ → Type 0
SheetLimits s room = LimitsFor (result_length (header_of s)) s room
