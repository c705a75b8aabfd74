-- A sheet of version 2 rearranged gets past number 6, and states the same month. Assumes nothing.
use mathlib.Core.Path.{◌≡◌, refl, sym, ap, subst, ◌∙◌}
use mathlib.Core.Bool.{cond}
use mathlib.Core.List.{List, ◌++◌}
use Prim.Native.Nat.{ℕ, ◌+◌, ◌-◌, ◌*◌, ◌≤◌, ◌<◌}
use native.Mathlib.Nat.{zero-add, add_assoc, mul_comm}
use native.Mathlib.Omega.{arith}
use lib.Dec.{ltb}
use lib.ListN.{length, length-append}
use Rattle.rules.specs.declared.Header.{Header}
use Rattle.rules.specs.declared.Layout.{Layout}
use Rattle.rules.specs.declared.Series.{Series}
use Rattle.rules.specs.Month.{hours}
use Rattle.rules.specs.Limits.{FormLimits}
use Rattle.rules.specs.Fields.{big_endian, bytes_from, joined}
use Rattle.rules.specs.Sheet.{
  length_field,
  version,
  header_of,
  layout_of,
  month_of,
  month_under,
  hours_width,
  stated_width,
  states_days,
  by_column,
  producer_at,
  hours_at,
  hour_series,
  series,
  power_at,
  power,
  producer_under,
  row_width,
  row_at,
  row_of,
  day_at,
  consumer_at,
  consumer_of,
  sheet_length,
  column,
  in_columns,
  rearranged,
}
use Rattle.rules.specs.Outcome.{Stretch, hours_stretch}
use Rattle.laws.proofs.Refusals.{form_clear}
use Rattle.laws.proofs.Fields.{Holds, holds_left, holds_right, length-joined, held_record}
use Rattle.laws.proofs.Sheet.{
  SameFields,
  length-from,
  held_from,
  row_width_2,
  by_column_means,
  sheet_length_in_full,
  row_inside,
  consumer_inside,
  producers_le,
  front_same,
  row_same,
  consumer_same,
}
use Rattle.theorems.specs.Alike.{SameProducer, Alike}
use Rattle.theorems.proofs.Alike.{producer_alike}
use Rattle.theorems.proofs.OtherVersion as OtherVersion

-- A column of n powers has 4 × n bytes, and they are read where they were put.
module _ (s : List ℕ) (at : ℕ) (x : Series) where
  abbrev powers : ℕ → List ℕ
  powers i = bytes_from s (power_at at x i) 4

  pub length-column : (n : ℕ) → length (column s at n x) ≡ 4 * n
  unfolding column
  length-column n = length-joined powers 4 (λ i. length-from s (power_at at x i) 4) n

  pub column_read : (t : List ℕ) (to n : ℕ) → Holds t to (column s at n x) → (i : ℕ) → i < n
      → big_endian 4 t (to + 4 * i) ≡ power s at x i
  unfolding column power
  column_read t to n h i b =
      front_same t (to + 4 * i) s (power_at at x i) 4 (omega arith)
      (held_from 4 t (to + 4 * i) s (power_at at x i) (held_record powers 4 (λ i. length-from s (power_at at x i) 4) t to n h i b))

module _ (s : List ℕ) (form : FormLimits s) (second : version s ≡ 2) where
  abbrev h : Header
  h = header_of s

  abbrev t : List ℕ
  t = rearranged s

  abbrev l : Layout
  l = record { version = 2; header = h }

  abbrev l' : Layout
  l' = record { version = 3; header = h }

  -- Records stand where they stood.
  same_places : (sheet_length l' ≡ sheet_length l) × ((j : ℕ) → row_at l' j ≡ row_at l j)
      × ((c : ℕ) → consumer_at l' c ≡ consumer_at l c)
      × ((p : ℕ) → hours_at l' p ≡ hours_at l p) × ((p : ℕ) → producer_at l' p ≡ producer_at l p)
  unfolding sheet_length consumer_at row_at row_width states_days hours_at producer_at
  same_places = (refl, (λ j. refl), (λ c. refl), (λ p. refl), (λ p. refl))

  pub rows_at : row_at l 0 ≡ 14 + h.producers * (42 + 288 * h.days)
  rows_at = unfold row_at producer_at in omega arith

  pub rows_inside : row_at l 0 ≤ sheet_length l
  rows_inside = omega (arith, rows_at, sheet_length_in_full l)

  -- Its parts, and their lengths.
  abbrev producers : List ℕ
  producers = joined (in_columns l s) h.producers

  abbrev behind : List ℕ
  behind = bytes_from s (row_at l 0) (sheet_length l - row_at l 0)

  abbrev column_of : ℕ → Series → List ℕ
  column_of p x = column s (hours_at l p) (hours h) x

  length_producer : (p : ℕ) → length (in_columns l s p) ≡ 42 + 288 * h.days
  unfolding in_columns
  length_producer p = simp (length-append, length-from, length-column) (omega arith)

  pub length-producers : length producers ≡ (42 + 288 * h.days) * h.producers
  length-producers = length-joined (in_columns l s) (42 + 288 * h.days) length_producer h.producers

  pub length_after : length t ≡ sheet_length l
  unfolding rearranged
  length_after =
      rw second
      (simp (length-append, OtherVersion.length_front (length_field s) 3, length-from, length-producers)
      (omega (arith, rows_inside, rows_at, mul_comm h.producers (42 + 288 * h.days))))

  -- Where they stand.
  whole : Holds t 0 (OtherVersion.front (length_field s) 3 ++ (bytes_from s 5 9 ++ (producers ++ behind)))
  unfolding rearranged
  whole = rw second (record { byte = λ i b. rw zero-add refl })

  after_front : Holds t 5 (bytes_from s 5 9 ++ (producers ++ behind))
  after_front =
      OtherVersion.behind_front s t (length_field s) 3 (bytes_from s 5 9 ++ (producers ++ behind)) whole

  month_same : SameFields 9 t 5 s 5
  month_same = held_from 9 t 5 s 5 (holds_left t 5 (bytes_from s 5 9) (producers ++ behind) after_front)

  after_header : Holds t 14 (producers ++ behind)
  after_header =
      holds_right t 5 (bytes_from s 5 9) (producers ++ behind) (omega (arith, length-from s 5 9)) after_front

  behind_same : SameFields (sheet_length l - row_at l 0) t (row_at l 0) s (row_at l 0)
  behind_same =
      held_from (sheet_length l - row_at l 0) t (row_at l 0) s (row_at l 0)
      (holds_right t 14 producers behind (omega (arith, length-producers, rows_at, mul_comm h.producers (42 + 288 * h.days))) after_header)

  -- It gets past number 6.
  right : length_field s ≡ sheet_length l'
  right = form.length_right ∙ rw second (sym same_places.0)

  long_fits : length_field s < 4294967296
  long_fits =
      let k = form.header in
      omega (
        arith,
        right,
        rw (row_width_2 l' (omega arith)) at (sheet_length_in_full l'),
        producers_le h.producers h.days (omega (arith, k.producers)) (omega (arith, k.days_to)),
        k.rows,
        k.consumers,
      )

  pub layout_after : layout_of t ≡ l'
  layout_after = OtherVersion.layout_after s t (length_field s) 3 (bytes_from s 5 9 ++ (producers ++ behind)) whole long_fits (omega arith) month_same

  pub form_after : FormLimits t
  form_after =
      OtherVersion.form_after s t (length_field s) 3 (bytes_from s 5 9 ++ (producers ++ behind)) whole long_fits (omega arith) month_same form (omega arith) (omega arith)
      (length_after ∙ sym same_places.0 ∙ sym right) right

  pub as_long : length t ≡ length s
  as_long = length_after ∙ sym same_places.0 ∙ sym right ∙ form.length_told

  -- The figures. A producer's three columns hold its three series.
  module _ (p : ℕ) (below : p < h.producers) where
    producer_held : Holds t (producer_at l p) (in_columns l s p)
    producer_held =
        subst (λ (x : ℕ). Holds t x (in_columns l s p)) place
        (held_record (in_columns l s) (42 + 288 * h.days) length_producer t 14 h.producers (holds_left t 14 producers behind after_header) p below)
      where
        place : 14 + (42 + 288 * h.days) * p ≡ producer_at l p
        place = unfold producer_at in omega (arith, mul_comm p (42 + 288 * h.days))

    abbrev stated : List ℕ
    stated = bytes_from s (producer_at l p) 42

    abbrev working : List ℕ
    working = column_of p (hour_series l).working

    abbrev possible : List ℕ
    possible = column_of p (hour_series l).possible

    abbrev outside : List ℕ
    outside = column_of p (hour_series l).outside

    from_stated : Holds t (producer_at l p) (stated ++ (working ++ (possible ++ outside)))
    from_stated = unfold in_columns in producer_held

    stated_same : SameFields stated_width t (producer_at l p) s (producer_at l p)
    stated_same = held_from 42 t (producer_at l p) s (producer_at l p) (holds_left t (producer_at l p) stated (working ++ (possible ++ outside)) from_stated)

    from_working : Holds t (hours_at l p + 0) (working ++ (possible ++ outside))
    from_working =
        holds_right t (producer_at l p) stated (working ++ (possible ++ outside)) (unfold hours_at in omega (arith, length-from s (producer_at l p) 42)) from_stated

    from_possible : Holds t (hours_at l p + 96 * h.days) (possible ++ outside)
    from_possible =
        holds_right t (hours_at l p + 0) working (possible ++ outside) (omega (arith, length-column s (hours_at l p) (hour_series l).working (hours h))) from_working

    from_outside : Holds t (hours_at l p + 192 * h.days) outside
    from_outside =
        holds_right t (hours_at l p + 96 * h.days) possible outside (omega (arith, length-column s (hours_at l p) (hour_series l).possible (hours h))) from_possible

    -- A column that begins at a place of the stretch is read there.
    read : (start : ℕ) (x : Series) → Holds t (hours_at l p + start) (column_of p x) → (i : ℕ) → i < hours h
        → power t (hours_at l p) (series start 4) i ≡ power s (hours_at l p) x i
    read start x held i b =
        unfold power in
        rw (← (add_assoc (hours_at l p) start (4 * i))) (unfold power in column_read s (hours_at l p) x t (hours_at l p + start) (hours h) held i b)

    producer_after : SameProducer (hours h) (producer_under l s p) (producer_under l' t p)
    producer_after =
        let columned = by_column_means l' (unfold by_column in refl) in
        producer_alike l l' s t p (rw (same_places.4 p) stated_same)
        (rw (same_places.3 p, columned) (read 0 (hour_series l).working (holds_left t (hours_at l p + 0) working (possible ++ outside) from_working)))
        (rw (same_places.3 p, columned) (read (96 * h.days) (hour_series l).possible (holds_left t (hours_at l p + 96 * h.days) possible outside from_possible)))
        (rw (same_places.3 p, columned) (read (192 * h.days) (hour_series l).outside from_outside))

  -- Rows and consumers are the bytes that they were.
  behind_at : (n at : ℕ) → row_at l 0 ≤ at → at + n ≤ sheet_length l → SameFields n t at s at
  behind_at n at from to w k q =
      let e : row_at l 0 + (at - row_at l 0 + k) ≡ at + k = omega arith in
      ap (big_endian w t) (sym e) ∙ behind_same w (at - row_at l 0 + k) (omega arith) ∙ ap (big_endian w s) e

  row_after : (j : ℕ) → j < h.rows → row_of l' t (row_at l' j) ≡ row_of l s (row_at l j)
  unfolding day_at states_days
  row_after j b = rw (same_places.1 j) (unfold day_at states_days in row_same t (row_at l j) s (row_at l j) l (behind_at (row_width l) (row_at l j) (unfold row_at in omega arith) (row_inside l j b)))

  consumer_after : (c : ℕ) → c < h.consumers
      → consumer_of t (consumer_at l' c) ≡ consumer_of s (consumer_at l c)
  consumer_after c b =
      rw (same_places.2 c)
      (consumer_same t (consumer_at l c) s (consumer_at l c) (behind_at 15 (consumer_at l c) (unfold consumer_at row_at in omega arith) (consumer_inside l c b)))

  -- Each producer's hours are the same stretch.
  module _ (p : ℕ) where
    abbrev stretch_under : Layout → Stretch
    stretch_under x = cond (ltb p x.header.producers) (record { place = hours_at x p; bytes = hours_width x.header }) (record { place = 0; bytes = 0 })

    past_form : (x : List ℕ) → FormLimits x → hours_stretch x p ≡ stretch_under (layout_of x)
    unfolding hours_stretch
    past_form x f = rw (form_clear x f)

    pub stretch_after : hours_stretch t p ≡ hours_stretch s p
    stretch_after =
        past_form t form_after ∙ ap stretch_under layout_after ∙ rw (
          same_places.3 p,
          second,
        )
        refl ∙ sym (past_form s form)

  -- The month that it states is the same month.
  pub alike_after : Alike (month_of s) (month_of t)
  alike_after =
      subst (λ (x : Layout). Alike (month_under x s) (month_of t)) (rw second refl)
      (subst (λ (x : Layout). Alike (month_under l s) (month_under x t)) (sym layout_after)
      (record { header = refl; producer = producer_after; row = row_after; consumer = consumer_after }))
