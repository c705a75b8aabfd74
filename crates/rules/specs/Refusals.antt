-- Refusals: the numbers 1 to 12 and 18 as tests in their order, each of the whole sheet, and the number of
-- the first that applies. [When a sheet is turned down, throughout; the number stands before each test]
use Rattle.std.specs.Prelude.{
  ℕ,
  ◌/◌,
  ◌^◌,
  Bool,
  false,
  not,
  cond,
  ◌||◌,
  ◌&&◌,
  List,
  [],
  ◌∷◌,
  ◌++◌,
  length,
  leb,
  ltb,
  eqb,
}
use Rattle.rules.specs.Range.{any}
use Rattle.rules.specs.Units.{tenths_ceiling, tiyn_ceiling, one}
use Rattle.rules.specs.Month.{Header, Producer, Row, Consumer, Month, hours}
use Rattle.rules.specs.Sheet.{
  Layout,
  header_width,
  length_field,
  version,
  header_of,
  layout_of,
  sheet_length,
  month_of,
}
use Rattle.rules.specs.Result.{result_length}

-- One of a list of tests holds.
unfoldable pub one_of : List Bool → Bool
one_of [] = false
one_of (test ∷ tests) = test || one_of tests

-- 3: a version other than 1, 2 and 3. [Requests, 5 and 7]
unfoldable pub bad_version : List ℕ → Bool
bad_version s = one_of (ltb (version s) 1 ∷ ltb 3 (version s) ∷ [])

-- 4: no month has so many days, no weekday that number, or a day past the month's end is marked as a holiday.
unfoldable pub bad_month : Header → Bool
bad_month h =
    one_of
    (ltb h.days 28
    ∷ ltb 31 h.days
    ∷ ltb h.weekday 1
    ∷ ltb 7 h.weekday
    ∷ ltb 0 (h.holidays / 2 ^ h.days)
    ∷ [])

-- 5: more than 6 producers, 32 rows or 32 consumers.
unfoldable pub too_many : Header → Bool
too_many h = one_of (ltb 6 h.producers ∷ ltb 32 h.rows ∷ ltb 32 h.consumers ∷ [])

-- 8: a producer lacks bids or plans for more hours than there are, or a coefficient given for it exceeds 1.
unfoldable pub bad_share : Header → Producer → Bool
bad_share h p =
    one_of
    (ltb (hours h) p.no_upward_bid
    ∷ ltb (hours h) p.no_downward_bid
    ∷ ltb (hours h) p.no_plan
    ∷ ltb one p.k3
    ∷ ltb one p.k6
    ∷ ltb one p.k7
    ∷ ltb one p.k8
    ∷ ltb one p.k9
    ∷ ltb one p.k10
    ∷ [])

-- 9: a capacity, power, volume or peak exceeds the ceiling of tenths.
unfoldable pub too_high : ℕ → Bool
too_high tenths = ltb tenths_ceiling tenths

-- 9, in an hour.
unfoldable pub high_hour : Producer → ℕ → Bool
high_hour p hour =
    one_of (too_high (p.working hour) ∷ too_high (p.possible hour) ∷ too_high (p.outside_use hour) ∷ [])

-- 9, in a producer.
unfoldable pub high_producer : Header → Producer → Bool
high_producer h p =
    one_of
    (too_high p.attested
    ∷ too_high p.deductible
    ∷ too_high p.own_needs
    ∷ any (high_hour p) (hours h)
    ∷ [])

-- 9, in a row.
unfoldable pub high_row : Row → Bool
high_row r = too_high r.volume

-- 9, in a consumer.
unfoldable pub high_consumer : Consumer → Bool
high_consumer c = one_of (too_high c.contract ∷ too_high c.peak ∷ [])

-- 10: a row names a producer or a consumer that the sheet does not have. The single buyer, 255, may always be
-- named.
unfoldable pub bad_reference : Header → Row → Bool
bad_reference h r =
    one_of
    (leb h.producers r.producer
    ∷ (not (eqb r.consumer 255) && leb h.consumers r.consumer)
    ∷ [])

-- 11: a price exceeds the ceiling of tiyn.
unfoldable pub too_dear : ℕ → Bool
too_dear price = ltb tiyn_ceiling price

-- 12: more mining days than the month has days, or z is below 1.0 or above 10.0.
unfoldable pub bad_factor : Header → Consumer → Bool
bad_factor h c =
    one_of
    (ltb h.days c.supplier
    ∷ ltb h.days c.grid
    ∷ ltb c.z 10
    ∷ ltb 100 c.z
    ∷ [])

-- 18: a row begins on day 0, ends before it begins, or ends after the month does. [Requests, 5]
unfoldable pub bad_days : Header → Row → Bool
bad_days h r = one_of (ltb r.first 1 ∷ ltb r.last r.first ∷ ltb h.days r.last ∷ [])

-- Some producer of the month passes a test.
abbrev pub some_producer : Month → (Producer → Bool) → Bool
some_producer m test = any (λ p. test (m.producer p)) m.header.producers

-- Some row does.
abbrev pub some_row : Month → (Row → Bool) → Bool
some_row m test = any (λ j. test (m.row j)) m.header.rows

-- Some consumer does.
abbrev pub some_consumer : Month → (Consumer → Bool) → Bool
some_consumer m test = any (λ c. test (m.consumer c)) m.header.consumers

-- A number, and whether it applies.
pub record Test : Type 0 where
  pub number : ℕ
  pub applies : Bool

abbrev pub test : ℕ → Bool → Test
test number applies = record { number = number; applies = applies }

-- 1 to 3: no whole header; a length field that is wrong about the bytes; another version.
unfoldable pub front_tests : List ℕ → List Test
front_tests s =
    test 1 (ltb (length s) header_width)
    ∷ test 2 (not (eqb (length_field s) (length s)))
    ∷ test 3 (bad_version s)
    ∷ []

-- 4 to 6, of a layout and the length of its sheet: the month; the counts; a length other than these ask for.
unfoldable pub header_tests : Layout → ℕ → List Test
header_tests l bytes =
    test 4 (bad_month l.header) ∷ test 5 (too_many l.header) ∷ test 6 (not (eqb bytes (sheet_length l))) ∷ []

-- 1 to 6: the form.
unfoldable pub form_tests : List ℕ → List Test
form_tests s = front_tests s ++ header_tests (layout_of s) (length_field s)

-- 7, the room: a result of so many bytes does not fit into the result buffer.
unfoldable pub room_tests : ℕ → ℕ → List Test
room_tests needed room = test 7 (ltb room needed) ∷ []

-- 8 to 12, then 18: the figures.
unfoldable pub figure_tests : Month → List Test
figure_tests m =
    test 8 (some_producer m (bad_share m.header))
    ∷ test 9 (one_of (some_producer m (high_producer m.header) ∷ some_row m high_row ∷ some_consumer m high_consumer ∷ []))
    ∷ test 10 (some_row m (bad_reference m.header))
    ∷ test 11 (one_of (some_row m (λ r. too_dear r.price) ∷ some_consumer m (λ c. too_dear c.price) ∷ []))
    ∷ test 12 (some_consumer m (bad_factor m.header))
    ∷ test 18 (some_row m (bad_days m.header))
    ∷ []

-- All but 7, in their order: what an entry tries that has no result buffer.
unfoldable pub sheet_tests : List ℕ → List Test
sheet_tests s = form_tests s ++ figure_tests (month_of s)

-- All of them in their order, for an entry with a result of so many bytes and a result buffer of so many.
unfoldable pub tests_for : ℕ → List ℕ → ℕ → List Test
tests_for needed s room = form_tests s ++ room_tests needed room ++ figure_tests (month_of s)

-- All of them for the settlement.
unfoldable pub tests : List ℕ → ℕ → List Test
tests s room = tests_for (result_length (header_of s)) s room

-- Whether the test with a number applies.
unfoldable pub applies : ℕ → List Test → Bool
applies n [] = false
applies n (t ∷ ts) = cond (eqb t.number n) t.applies (applies n ts)

-- The number of the first test that applies, 0 where none does.
unfoldable pub first_of : List Test → ℕ
first_of [] = 0
first_of (t ∷ ts) = cond t.applies t.number (first_of ts)

-- The number that a sheet is refused with, for a result buffer of so many bytes; 0 where it is accepted.
unfoldable pub refusal : List ℕ → ℕ → ℕ
refusal s room = first_of (tests s room)
