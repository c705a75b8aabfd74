-- Transfers of contract volume between consumers: a list, applied to the contract volumes in a sheet.
-- [Requests, 1, throughout; p. 53; a number stands before each of its tests]
use Rattle.std.specs.Prelude.{
  ℕ,
  zero,
  suc,
  ◌+◌,
  ◌-◌,
  ◌%◌,
  Bool,
  not,
  cond,
  List,
  [],
  ◌∷◌,
  ◌++◌,
  length,
  leb,
  ltb,
  eqb,
}
use Rattle.rules.specs.Range.{any}
use Rattle.rules.specs.Month.{Month, with_consumers}
use Rattle.rules.specs.Sheet.{header_of, layout_of, month_of, with_contracts}
use Rattle.rules.specs.Refusals.{one_of, too_high, Test, test, sheet_tests, first_of}
use Rattle.rules.specs.Outcome.{Outcome, answered, lent_after}
use Rattle.rules.specs.TransferList.{
  Transfer,
  list_front,
  entry_width,
  list_length,
  list_version,
  entries,
  entry,
}

-- The last day of the month before on which an entry may be filed.
abbrev pub last_filing_day : ℕ
last_filing_day = 20

-- 13, in an entry: no month has that day, the sheet has no such consumer, or giver and taker are one.
unfoldable pub bad_entry : ℕ → Transfer → Bool
bad_entry consumers t =
    one_of
    (ltb t.day 1
    ∷ ltb 31 t.day
    ∷ leb consumers t.giver
    ∷ leb consumers t.taker
    ∷ eqb t.giver t.taker
    ∷ [])

-- 13, before the entries: no whole front; a length field that is wrong about the bytes, or ends inside an
-- entry; another version.
unfoldable pub bad_front : List ℕ → Bool
bad_front l =
    one_of
    (ltb (length l) list_front
    ∷ not (eqb (list_length l) (length l))
    ∷ not (eqb ((list_length l - list_front) % entry_width) 0)
    ∷ not (eqb (list_version l) 1)
    ∷ [])

-- 14: filed too late.
unfoldable pub late : Transfer → Bool
late t = ltb last_filing_day t.day

-- Some entry of the list passes a test.
abbrev pub some_entry : List ℕ → (Transfer → Bool) → Bool
some_entry l test = any (λ i. test (entry l i)) (entries l)

-- The contract volumes after an entry: the giver has less, the taker more, all others as much.
unfoldable pub moved : (ℕ → ℕ) → Transfer → ℕ → ℕ
moved v t c = cond (eqb c t.giver) (v c - t.amount) (cond (eqb c t.taker) (v c + t.amount) (v c))

-- The contract volumes after the first n entries, in their order.
unfoldable pub after_entries : (ℕ → ℕ) → List ℕ → ℕ → ℕ → ℕ
after_entries v l zero = v
after_entries v l (suc n) = moved (after_entries v l n) (entry l n)

-- 15, at an entry's turn: more than the giver then has, or the taker brought above the ceiling of tenths.
unfoldable pub overdrawn : (ℕ → ℕ) → Transfer → Bool
overdrawn v t = one_of (ltb (v t.giver) t.amount ∷ too_high (v t.taker + t.amount) ∷ [])

-- 15, at the turn of entry i.
unfoldable pub overdrawn_at : (ℕ → ℕ) → List ℕ → ℕ → Bool
overdrawn_at v l i = overdrawn (after_entries v l i) (entry l i)

-- 13, then 14, each over the whole list, for a sheet with so many consumers.
unfoldable pub list_tests : ℕ → List ℕ → List Test
list_tests consumers l =
    test 13 (one_of (bad_front l ∷ some_entry l (bad_entry consumers) ∷ []))
    ∷ test 14 (some_entry l late)
    ∷ []

-- 15, for a sheet with these contract volumes.
unfoldable pub turn_tests : (ℕ → ℕ) → List ℕ → List Test
turn_tests v l = test 15 (any (overdrawn_at v l) (entries l)) ∷ []

-- The contract volumes that a month states.
abbrev pub contracts : Month → ℕ → ℕ
contracts m c = (m.consumer c).contract

-- All numbers in their order: the sheet's own, all but 7, and then the list's.
unfoldable pub transfer_tests : List ℕ → List ℕ → List Test
transfer_tests s l =
    sheet_tests s ++ (list_tests (header_of s).consumers l ++ turn_tests (contracts (month_of s)) l)

-- The number that a sheet and a list are refused with, 0 where the list is applied.
unfoldable pub transfer_refusal : List ℕ → List ℕ → ℕ
transfer_refusal s l = first_of (transfer_tests s l)

-- What is answered.
unfoldable pub transfer_outcome : List ℕ → List ℕ → Outcome
transfer_outcome s l = answered (transfer_refusal s l) 0

-- The contract volumes after the whole list.
unfoldable pub volumes_after : Month → List ℕ → ℕ → ℕ
volumes_after m l = after_entries (contracts m) l (entries l)

-- The sheet afterwards: with the contract volumes after the list; after a refusal as it was.
unfoldable pub transferred : List ℕ → List ℕ → List ℕ
transferred s l =
    lent_after (transfer_refusal s l)
    (with_contracts (layout_of s) (volumes_after (month_of s) l) (header_of s).consumers s)
    s

-- The month with other contract volumes.
abbrev pub with_volumes : Month → (ℕ → ℕ) → Month
with_volumes m v =
    with_consumers m
    (λ c.
    record {
      contract = v c;
      peak = (m.consumer c).peak;
      supplier = (m.consumer c).supplier;
      grid = (m.consumer c).grid;
      z = (m.consumer c).z;
      price = (m.consumer c).price;
    })
