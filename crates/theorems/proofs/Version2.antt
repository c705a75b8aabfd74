-- A sheet of version 1 written in version 2 gets past number 6, and states the same figures with rows that
-- cover the month. Assumes nothing.
use mathlib.Core.Path.{◌≡◌, refl, sym, ap, subst, ◌∙◌}
use mathlib.Core.List.{List, [], ◌∷◌, ◌++◌}
use Prim.Native.Nat.{ℕ, ◌+◌, ◌-◌, ◌*◌, ◌≤◌, ◌<◌}
use native.Mathlib.Nat.{zero-add, add_assoc, mul-le-mul_right}
use native.Mathlib.Omega.{arith}
use borrow.Author.Tests.{le-ltb}
use lib.ListN.{length, get_or, length-append}
use Rattle.rules.specs.declared.Layout.{Layout}
use Rattle.rules.specs.Month.{hours}
use Rattle.rules.specs.Limits.{FormLimits}
use Rattle.rules.specs.Fields.{big_endian, bytes_from, joined}
use Rattle.rules.specs.Sheet.{
  length_field,
  version,
  header_of,
  layout_of,
  month_of,
  states_days,
  by_column,
  producer_at,
  producer_under,
  row_at,
  row_of,
  day_at,
  consumer_at,
  consumer_of,
  sheet_length,
  in_version_2,
}
use Rattle.laws.proofs.Fields.{Holds, holds_left, holds_right, length-joined, held_record}
use Rattle.laws.proofs.Sheet.{
  SameFields,
  length-from,
  held_from,
  row_width_1,
  row_width_2,
  by_hour,
  sheet_length_in_full,
  producers_le,
  front_same,
  consumer_same,
}
use Rattle.theorems.specs.Alike.{SameProducer}
use Rattle.theorems.specs.Request5.{FullRow, FullRows}
use Rattle.theorems.proofs.Alike.{producer_same}
use Rattle.theorems.proofs.OtherVersion as OtherVersion

module _ (s : List ℕ) (form : FormLimits s) (first : version s ≡ 1) where
  abbrev l : Layout
  l = layout_of s

  abbrev t : List ℕ
  t = in_version_2 s

  abbrev l' : Layout
  l' = record { version = 2; header = header_of s }

  -- Its parts, and their lengths.
  abbrev long : ℕ
  long = length_field s + 2 * (header_of s).rows

  abbrev producers : List ℕ
  producers = bytes_from s 5 (row_at l 0 - 5)

  abbrev row : ℕ → List ℕ
  row j = bytes_from s (row_at l j) 10 ++ (1 ∷ (header_of s).days ∷ [])

  abbrev rows : List ℕ
  rows = joined row (header_of s).rows

  abbrev consumers : List ℕ
  consumers = bytes_from s (consumer_at l 0) (15 * (header_of s).consumers)

  length-row : (j : ℕ) → length (row j) ≡ 12
  length-row j = simp (length-append, length-from s (row_at l j) 10)

  length-rows : length rows ≡ 12 * (header_of s).rows
  length-rows = length-joined row 12 length-row (header_of s).rows

  rows_from : 14 ≤ row_at l 0
  unfolding row_at producer_at
  rows_from = omega arith

  -- Where they stand.
  whole : Holds t 0 (OtherVersion.front long 2 ++ (producers ++ (rows ++ consumers)))
  unfolding in_version_2
  whole = record { byte = λ i b. rw zero-add refl }

  after_head : Holds t 5 (producers ++ (rows ++ consumers))
  after_head = OtherVersion.behind_front s t long 2 (producers ++ (rows ++ consumers)) whole

  after_producers : Holds t (row_at l 0) (rows ++ consumers)
  after_producers =
      holds_right t 5 producers (rows ++ consumers) (omega (arith, length-from s 5 (row_at l 0 - 5), rows_from)) after_head

  producers_same : SameFields (row_at l 0 - 5) t 5 s 5
  producers_same =
      held_from (row_at l 0 - 5) t 5 s 5 (holds_left t 5 producers (rows ++ consumers) after_head)

  row_held : (j : ℕ) → j < (header_of s).rows → Holds t (row_at l 0 + 12 * j) (row j)
  row_held j b = held_record row 12 length-row t (row_at l 0) (header_of s).rows (holds_left t (row_at l 0) rows consumers after_producers) j b

  consumers_same : SameFields (15 * (header_of s).consumers) t (row_at l 0 + 12 * (header_of s).rows) s (consumer_at l 0)
  consumers_same =
      held_from (15 * (header_of s).consumers) t (row_at l 0 + 12 * (header_of s).rows) s (consumer_at l 0)
      (holds_right t (row_at l 0) rows consumers (omega (arith, length-rows)) after_producers)

  -- A field before the rows, past the version.
  front : (w at : ℕ) → 5 ≤ at → at + w ≤ row_at l 0 → big_endian w t at ≡ big_endian w s at
  front w at a b =
      let e : 5 + (at - 5) ≡ at = omega arith in
      ap (big_endian w t) (sym e) ∙ producers_same w (at - 5) (omega arith) ∙ ap (big_endian w s) e

  -- The length that version 2 asks for, which the front states.
  longer : long ≡ sheet_length l'
  longer =
      omega (
        arith,
        form.length_right,
        rw (row_width_1 l (omega (arith, first))) at (sheet_length_in_full l),
        rw (row_width_2 l' (omega arith)) at (sheet_length_in_full l'),
      )

  length_after : length t ≡ sheet_length l'
  unfolding in_version_2
  length_after =
      simp (length-append, OtherVersion.length_front long 2, length-from, length-rows)
      (omega (arith, rows_from, rows_at, rw (row_width_2 l' (omega arith)) at (sheet_length_in_full l')))
    where
      rows_at : row_at l 0 ≡ 14 + (header_of s).producers * (42 + 288 * (header_of s).days)
      rows_at = unfold row_at producer_at in omega arith

  long_fits : long < 4294967296
  long_fits =
      let h = form.header in
      omega (
        arith,
        longer,
        rw (row_width_2 l' (omega arith)) at (sheet_length_in_full l'),
        producers_le (header_of s).producers (header_of s).days (omega (arith, h.producers)) (omega (arith, h.days_to)),
        h.rows,
        h.consumers,
      )

  month_same : SameFields 9 t 5 s 5
  month_same w k b = front w (5 + k) (omega arith) (omega (arith, rows_from))

  pub layout_after : layout_of t ≡ l'
  layout_after = OtherVersion.layout_after s t long 2 (producers ++ (rows ++ consumers)) whole long_fits (omega arith) month_same

  pub form_after : FormLimits t
  form_after =
      OtherVersion.form_after s t long 2 (producers ++ (rows ++ consumers)) whole long_fits (omega arith) month_same form (omega arith) (omega arith)
      (length_after ∙ sym longer) longer

  -- The figures. Producers stand where they stood.
  producer_place : (p : ℕ) → producer_at l' p ≡ producer_at l p
  unfolding producer_at
  producer_place p = refl

  producer_after : (p : ℕ) → p < (header_of s).producers
      → SameProducer (hours (header_of s)) (producer_under l s p) (producer_under l' t p)
  producer_after p b =
      producer_same l l' s t p
      (λ w k q. ap (λ (at : ℕ). big_endian w t (at + k)) (producer_place p) ∙ front w (producer_at l p + k) (unfold producer_at in omega arith) (inside w k q))
      (by_hour l' (unfold by_column in refl) ∙ sym (by_hour l (unfold by_column in le-ltb 2 (version s) (omega (arith, first)))))
    where
      inside : (w k : ℕ) → k + w ≤ 42 + 288 * (header_of s).days → producer_at l p + k + w ≤ row_at l 0
      inside w k q = unfold row_at producer_at in omega (arith, mul-le-mul_right (42 + 288 * (header_of s).days) b)

  row_place : (j : ℕ) → row_at l' j ≡ row_at l 0 + 12 * j
  unfolding row_at
  row_place j = rw (row_width_2 l' (omega arith), producer_place (header_of s).producers) (omega arith)

  row_after : (j : ℕ) → j < (header_of s).rows
      → FullRow (header_of s).days (row_of l s (row_at l j)) (row_of l' t (row_at l' j))
  row_after j b =
      rw (row_place j)
      (record {
        producer = front_same t (row_at l 0 + 12 * j) s (row_at l j) 1 (omega arith) field';
        consumer = field' 1 1 (omega arith);
        volume = field' 4 2 (omega arith);
        price = field' 4 6 (omega arith);
        first = stated 0 1 (omega arith);
        last = stated 1 (header_of s).days (omega arith);
      })
    where
      field' : SameFields 10 t (row_at l 0 + 12 * j) s (row_at l j)
      field' = held_from 10 t (row_at l 0 + 12 * j) s (row_at l j) (holds_left t (row_at l 0 + 12 * j) (bytes_from s (row_at l j) 10) (1 ∷ (header_of s).days ∷ []) (row_held j b))

      days : Holds t (row_at l 0 + 12 * j + 10) (1 ∷ (header_of s).days ∷ [])
      days = holds_right t (row_at l 0 + 12 * j) (bytes_from s (row_at l j) 10) (1 ∷ (header_of s).days ∷ []) (omega (arith, length-from s (row_at l j) 10)) (row_held j b)

      stated : (k d : ℕ) → k < 2
          → day_at l' t (row_at l 0 + 12 * j + (10 + k)) d ≡ get_or (1 ∷ (header_of s).days ∷ []) k 0
      stated k d q =
          unfold day_at states_days big_endian in
          let e : row_at l 0 + 12 * j + (10 + k) + 0 ≡ row_at l 0 + 12 * j + 10 + k = omega arith in
          omega (arith, ap (λ (at : ℕ). get_or t at 0) e, days.byte k q)

  consumer_place : (c : ℕ) → consumer_at l' c ≡ row_at l 0 + 12 * (header_of s).rows + 15 * c
  unfolding consumer_at
  consumer_place c = rw (row_place (header_of s).rows)

  consumer_after : (c : ℕ) → c < (header_of s).consumers
      → consumer_of t (consumer_at l' c) ≡ consumer_of s (consumer_at l c)
  consumer_after c b = rw (consumer_place c) (consumer_same t (row_at l 0 + 12 * (header_of s).rows + 15 * c) s (consumer_at l c) field')
    where
      there : consumer_at l c ≡ consumer_at l 0 + 15 * c
      there = unfold consumer_at in omega arith

      field' : SameFields 15 t (row_at l 0 + 12 * (header_of s).rows + 15 * c) s (consumer_at l c)
      field' w k q =
          rw (
            there,
            add_assoc (consumer_at l 0) (15 * c) k,
            add_assoc (row_at l 0 + 12 * (header_of s).rows) (15 * c) k,
          )
          (consumers_same w (15 * c + k) (omega arith))

  pub full_after : FullRows s t
  full_after =
      record {
        version_1 = first;
        version_2 = ap (λ (x : Layout). x.version) layout_after;
        header = ap (λ (x : Layout). x.header) layout_after;
        producer = λ p b. rw layout_after (producer_after p b);
        row =
            λ j b.
            subst (λ (x : Layout). FullRow (header_of s).days ((month_of s).row j) (row_of x t (row_at x j))) (sym layout_after) (row_after j b);
        consumer = λ c b. rw layout_after (consumer_after c b);
      }
