-- What is written behind the producers of a sheet is written into its rearrangement alike. Assumes nothing.
use mathlib.Core.Path.{◌≡◌, refl, sym, ap, ◌∙◌}
use mathlib.Core.Bool.{Bool, true, false, cond}
use mathlib.Core.List.{List, ◌++◌, append_assoc}
use Prim.Native.Nat.{ℕ, zero, suc, ◌+◌, ◌-◌, ◌*◌, ◌≤◌, ◌<◌}
use native.Mathlib.Nat.{le_refl, mul_comm, mul-le-mul_right}
use native.Mathlib.Omega.{arith}
use borrow.Author.Tests.{eqb-true, ltb-true, ltb-false}
use lib.Dec.{eqb, ltb}
use lib.ListN.{length, get_or, length-append, get_or-append, get_or-eq_default}
use lib.Seq.{ext_get_or, get_or-append-add}
use Rattle.rules.specs.declared.Consumer.{Consumer}
use Rattle.rules.specs.declared.Layout.{Layout}
use Rattle.rules.specs.declared.Series.{Series}
use Rattle.rules.specs.Month.{hours}
use Rattle.rules.specs.Limits.{FormLimits}
use Rattle.rules.specs.Fields.{big_endian, bytes_from, bytes_of, joined, over_at}
use Rattle.rules.specs.Sheet.{
  length_field,
  version,
  header_of,
  layout_of,
  month_of,
  producer_at,
  hours_at,
  hour_series,
  power_at,
  states_days,
  row_width,
  row_at,
  consumer_at,
  sheet_length,
  with_contracts,
  with_peak,
  column,
  in_columns,
  rearranged,
}
use Rattle.rules.specs.Refusals.{form_tests, first_of}
use Rattle.rules.specs.Outcome.{lent_after}
use Rattle.rules.specs.TransferList.{entries}
use Rattle.rules.specs.Transfers.{contracts, volumes_after, transfer_refusal, transferred}
use Rattle.rules.specs.ComplexRecord.{complex}
use Rattle.rules.specs.Averaging.{complex_peak, peak_written, average_refusal, averaged}
use Rattle.laws.proofs.Arrays.{get_or-listed}
use Rattle.laws.proofs.Fields.{length-bytes_of, same_bytes}
use Rattle.laws.proofs.Sheet.{Spans, series_span, span_ends, consumer_inside, length-from, header_same}
use Rattle.laws.proofs.Written.{
  length-over_at,
  over_at_holds,
  over_at_keeps,
  Outside,
  Room,
  length-contracts,
  contracts_keep,
  contracts_same,
}
use Rattle.laws.proofs.Refusals.{form_clear}
use Rattle.laws.proofs.Transfers.{after_same, applied_limits}
use Rattle.laws.proofs.Averaging.{averaged_limits}
use Rattle.theorems.specs.Alike.{Alike}
use Rattle.theorems.proofs.Alike.{joined_same}
use Rattle.theorems.proofs.SameFigures as SameFigures
use Rattle.theorems.proofs.OtherVersion as OtherVersion
use Rattle.theorems.proofs.Version3 as Version3

-- Two lists that are the same from a place on, after the same bytes were written into both.
module _ (r at : ℕ) (p x y : List ℕ) (fits : at + length p ≤ length x) (fits' : at + length p ≤ length y)
    (same : (i : ℕ) → r ≤ i → get_or x i 0 ≡ get_or y i 0) where
  pub same_written : (i : ℕ) → r ≤ i → get_or (over_at at p x) i 0 ≡ get_or (over_at at p y) i 0
  same_written i q = go (ltb i at) (ltb i (at + length p)) refl refl
    where
      kept : (at ≤ i → at + length p ≤ i) → get_or (over_at at p x) i 0 ≡ get_or (over_at at p y) i 0
      kept o = over_at_keeps at p x fits i o ∙ same i q ∙ sym (over_at_keeps at p y fits' i o)

      go : (a b : Bool) → ltb i at ≡ a → ltb i (at + length p) ≡ b
          → get_or (over_at at p x) i 0 ≡ get_or (over_at at p y) i 0
      go true b e f = kept (λ o. absurd (omega (arith, ltb-true i at e)))
      go false false e f = kept (λ o. ltb-false i (at + length p) f)
      go false true e f =
          let k : at + (i - at) ≡ i = omega (arith, ltb-false i at e) in
          let inside : i - at < length p = omega (arith, ltb-true i (at + length p) f, ltb-false i at e) in
          rw k at ((over_at_holds at p x fits).byte (i - at) inside ∙ sym ((over_at_holds at p y fits').byte (i - at) inside))

-- A rearrangement in two parts: what stands before the rows, and the bytes behind.
abbrev front_of : Layout → List ℕ → List ℕ
front_of l x =
    OtherVersion.front (length_field x) 3 ++ (bytes_from x 5 9 ++ joined (in_columns l x) l.header.producers)

abbrev behind : Layout → List ℕ → List ℕ
behind l x = bytes_from x (row_at l 0) (sheet_length l - row_at l 0)

in_two : (x : List ℕ) → rearranged x ≡ front_of (layout_of x) x ++ behind (layout_of x) x
unfolding rearranged
in_two x = simp append_assoc

byte_from : (s : List ℕ) (at n i : ℕ) → i < n → get_or (bytes_from s at n) i 0 ≡ get_or s (at + i) 0
unfolding bytes_from
byte_from s at n i l = get_or-listed 0 _ n i l

bytes_same : (t s : List ℕ) (at n : ℕ) → ((i : ℕ) → i < n → get_or t (at + i) 0 ≡ get_or s (at + i) 0)
    → bytes_from t at n ≡ bytes_from s at n
bytes_same t s at n h =
    ext_get_or 0 (bytes_from t at n) (bytes_from s at n) (length-from t at n ∙ sym (length-from s at n))
    (λ i l. let b = rw (length-from t at n) at l in byte_from t at n i b ∙ h i b ∙ sym (byte_from s at n i b))

-- t has the bytes of s before its rows, where s is a sheet of version 2 that gets past number 6.
module _ (s t : List ℕ) (form : FormLimits s) (second : version s ≡ 2) where
  abbrev l : Layout
  l = record { version = 2; header = header_of s }

  abbrev r : ℕ
  r = row_at l 0

  module _ (kept : (i : ℕ) → i < r → get_or t i 0 ≡ get_or s i 0) where
    front_field : (w at : ℕ) → at + w ≤ r → big_endian w t at ≡ big_endian w s at
    front_field w at b = same_bytes w t s at at (λ i q. kept (at + i) (omega arith))

    rows_from : 14 ≤ r
    rows_from = unfold row_at producer_at in omega arith

    same_version : version t ≡ version s
    unfolding version
    same_version = front_field 1 4 (omega (arith, rows_from))

    same_header : header_of t ≡ header_of s
    same_header = header_same t s (λ w k b. front_field w (5 + k) (omega (arith, rows_from)))

    same_layout : layout_of t ≡ l
    same_layout = rw (same_version, second, same_header)

    -- Its parts before the rows are those of s.
    part_same : (at n : ℕ) → at + n ≤ r → bytes_from t at n ≡ bytes_from s at n
    part_same at n b = bytes_same t s at n (λ i q. kept (at + i) (omega arith))

    module _ (p : ℕ) (below : p < (header_of s).producers) where
      ends : hours_at l p + 288 * (header_of s).days ≤ r
      ends = unfold row_at hours_at producer_at in omega (arith, mul-le-mul_right (42 + 288 * (header_of s).days) below)

      column_same : (x : Series) → Spans (header_of s) x
          → column t (hours_at l p) (hours (header_of s)) x ≡ column s (hours_at l p) (hours (header_of s)) x
      unfolding column
      column_same x spans = joined_same _ _ (hours (header_of s)) (λ i b. part_same (power_at (hours_at l p) x i) 4 (omega (arith, ends, span_ends (header_of s) x spans i b)))

      producer_same : in_columns l t p ≡ in_columns l s p
      unfolding in_columns
      producer_same =
          let spans = series_span l in
          rw (
            part_same (producer_at l p) 42 (unfold hours_at in omega (arith, ends)),
            column_same (hour_series l).working spans.0,
            column_same (hour_series l).possible spans.1,
            column_same (hour_series l).outside spans.2,
          )

    length_field_same : length_field t ≡ length_field s
    unfolding length_field
    length_field_same = front_field 4 0 (omega (arith, rows_from))

    front_same : front_of l t ≡ front_of l s
    front_same =
        rw (
          length_field_same,
          part_same 5 9 (omega (arith, rows_from)),
          joined_same (in_columns l t) (in_columns l s) (header_of s).producers producer_same,
        )

    rearranged_t : rearranged t ≡ front_of l s ++ behind l t
    rearranged_t = in_two t ∙ ap (λ (x : Layout). front_of x t ++ behind x t) same_layout ∙ ap (λ (a : List ℕ). a ++ behind l t) front_same

    length_front : length (front_of l s) ≡ r
    length_front =
        simp (
          length-append,
          OtherVersion.length_front (length_field s) 3,
          length-from,
          Version3.length-producers s form second,
        )
        (omega (arith, Version3.rows_at s form second, mul_comm (header_of s).producers (42 + 288 * (header_of s).days)))

    length-rearranged : length (rearranged t) ≡ sheet_length l
    length-rearranged =
        ap length rearranged_t
        ∙ length-append (front_of l s) (behind l t)
        ∙ omega (
          arith,
          length_front,
          length-from t r (sheet_length l - r),
          Version3.rows_inside s form second,
        )

    -- A byte before the rows is that of the rearrangement of s, one behind them that of t.
    byte_front : (i : ℕ) → i < r → get_or (rearranged t) i 0 ≡ get_or (front_of l s) i 0
    byte_front i b = ap (λ (x : List ℕ). get_or x i 0) rearranged_t ∙ get_or-append (front_of l s) (behind l t) 0 i (rw length_front b)

    byte_behind : (i : ℕ) → r ≤ i → i < sheet_length l → get_or (rearranged t) i 0 ≡ get_or t i 0
    byte_behind i from to =
        let e : length (front_of l s) + (i - r) ≡ i = omega (arith, length_front) in
        let e' : r + (i - r) ≡ i = omega arith in
        let own : get_or (behind l t) (i - r) 0 ≡ get_or t (r + (i - r)) 0 = byte_from t r (sheet_length l - r) (i - r) (omega arith) in
        ap (λ (x : List ℕ). get_or x i 0) rearranged_t
        ∙ ap (λ (k : ℕ). get_or (front_of l s ++ behind l t) k 0) (sym e)
        ∙ get_or-append-add (front_of l s) (behind l t) (i - r) 0
        ∙ own
        ∙ ap (λ (k : ℕ). get_or t k 0) e'

    -- The list with the bytes of the one before the rows, and of the other behind them.
    pub is_rearranged : (u : List ℕ) → length u ≡ sheet_length l
        → ((i : ℕ) → i < r → get_or u i 0 ≡ get_or (front_of l s) i 0)
        → ((i : ℕ) → r ≤ i → get_or u i 0 ≡ get_or t i 0) → u ≡ rearranged t
    is_rearranged u long before after =
        ext_get_or 0 u (rearranged t) (long ∙ sym length-rearranged) (λ i b. go i (rw long at b) (ltb i r) refl)
      where
        go : (i : ℕ) → i < sheet_length l → (b : Bool) → ltb i r ≡ b
            → get_or u i 0 ≡ get_or (rearranged t) i 0
        go i q true e = let b = ltb-true i r e in before i b ∙ sym (byte_front i b)
        go i q false e = let b = ltb-false i r e in after i b ∙ sym (byte_behind i b q)

-- Contract volumes, and a peak, written into a sheet and into its rearrangement.
module _ (s : List ℕ) (form : FormLimits s) (second : version s ≡ 2) where
  abbrev before : Layout
  before = record { version = 2; header = header_of s }

  abbrev after : Layout
  after = record { version = 3; header = header_of s }

  places : (c : ℕ) → consumer_at after c ≡ consumer_at before c
  unfolding consumer_at row_at row_width states_days producer_at
  places c = refl

  consumers_from : (c : ℕ) → row_at before 0 ≤ consumer_at before c
  consumers_from c = unfold consumer_at row_at in omega arith

  own_front : (i : ℕ) → i < row_at before 0 → get_or (rearranged s) i 0 ≡ get_or (front_of before s) i 0
  own_front i b = byte_front s s form second (λ j q. refl) i b

  own_long : length (rearranged s) ≡ sheet_length before
  own_long = length-rearranged s s form second (λ j q. refl)

  long : length s ≡ sheet_length before
  long = sym form.length_told ∙ form.length_right ∙ rw second refl

  same_behind : (i : ℕ) → row_at before 0 ≤ i → get_or (rearranged s) i 0 ≡ get_or s i 0
  same_behind i b = go (ltb i (sheet_length before)) refl
    where
      go : (q : Bool) → ltb i (sheet_length before) ≡ q → get_or (rearranged s) i 0 ≡ get_or s i 0
      go true e = byte_behind s s form second (λ j q. refl) i b (ltb-true i (sheet_length before) e)
      go false e =
          let past = ltb-false i (sheet_length before) e in
          get_or-eq_default (rearranged s) 0 {n = i} (omega (arith, own_long)) ∙ sym (get_or-eq_default s 0 {n = i} (omega (arith, long)))

  abbrev count : ℕ
  count = (header_of s).consumers

  -- Where consumers have their bytes, in both.
  inside : (c : ℕ) → c < count → consumer_at before c + 15 ≤ length s
  inside c b = omega (arith, long, consumer_inside before c b)

  inside' : (c : ℕ) → c < count → consumer_at after c + 15 ≤ length (rearranged s)
  inside' c b = omega (arith, places c, own_long, consumer_inside before c b)

  module _ (v : ℕ → ℕ) where
    room : (n : ℕ) → n ≤ count → Room before v s n
    room n few c b = omega (arith, inside c (omega arith))

    room' : (n : ℕ) → n ≤ count → Room after v (rearranged s) n
    room' n few c b = omega (arith, inside' c (omega arith))

    same_from : (n : ℕ) → n ≤ count → (i : ℕ) → row_at before 0 ≤ i
        → get_or (with_contracts after v n (rearranged s)) i 0 ≡ get_or (with_contracts before v n s) i 0
    unfolding with_contracts
    same_from zero few i b = same_behind i b
    same_from (suc n) few i b =
        let least : n ≤ count = omega arith in
        rw (places n)
        (same_written (row_at before 0) (consumer_at before n) (bytes_of 4 (v n)) (with_contracts after v n (rearranged s)) (with_contracts before v n s)
        (rw length-bytes_of (omega (arith, inside' n few, places n, length-contracts after v (rearranged s) n (room' n least))))
        (rw length-bytes_of (omega (arith, inside n few, length-contracts before v s n (room n least))))
        (same_from n least) i b)

    outside : (l : Layout) → ((c : ℕ) → consumer_at l c ≡ consumer_at before c) → (n i : ℕ)
        → i < row_at before 0 → Outside l n i
    outside l there n i b c q from = absurd (omega (arith, there c, consumers_from c))

    contracts_rearranged : (n : ℕ) → n ≤ count
        → with_contracts after v n (rearranged s) ≡ rearranged (with_contracts before v n s)
    contracts_rearranged n few =
        is_rearranged s (with_contracts before v n s) form second
        (λ i b. contracts_keep before v s n (room n few) i (outside before (λ c. refl) n i b))
        (with_contracts after v n (rearranged s))
        (length-contracts after v (rearranged s) n (room' n few) ∙ own_long)
        (λ i b. contracts_keep after v (rearranged s) n (room' n few) i (outside after places n i b) ∙ own_front i b)
        (same_from n few)

  -- A peak.
  module _ (c peak : ℕ) (below : c < count) where
    abbrev at : ℕ
    at = consumer_at before c + 4

    fits : at + length (bytes_of 4 peak) ≤ length s
    fits = rw length-bytes_of (omega (arith, inside c below))

    fits' : at + length (bytes_of 4 peak) ≤ length (rearranged s)
    fits' = rw length-bytes_of (omega (arith, inside' c below, places c))

    peak_rearranged : with_peak after c peak (rearranged s) ≡ rearranged (with_peak before c peak s)
    unfolding with_peak
    peak_rearranged =
        rw (places c)
        (is_rearranged s (over_at at (bytes_of 4 peak) s) form second
        (λ i b. over_at_keeps at (bytes_of 4 peak) s fits i (λ q. absurd (omega (arith, consumers_from c))))
        (over_at at (bytes_of 4 peak) (rearranged s))
        (length-over_at at (bytes_of 4 peak) (rearranged s) fits' ∙ own_long)
        (λ i b. over_at_keeps at (bytes_of 4 peak) (rearranged s) fits' i (λ q. absurd (omega (arith, consumers_from c))) ∙ own_front i b)
        (same_written (row_at before 0) at (bytes_of 4 peak) (rearranged s) s fits' fits same_behind))

  -- A list and a record leave of the rearrangement what is the rearrangement of what they leave of the sheet.
  alike : Alike (month_of s) (month_of (rearranged s))
  alike = Version3.alike_after s form second

  past : first_of (form_tests (rearranged s)) ≡ 0
  past = form_clear (rearranged s) (Version3.form_after s form second)

  header_after : header_of (rearranged s) ≡ header_of s
  header_after = alike.header

  lent_alike : (number : ℕ) {number' : ℕ} (changed changed' : List ℕ) → number' ≡ number
      → (number ≡ 0 → changed' ≡ rearranged changed)
      → lent_after number' changed' (rearranged s) ≡ rearranged (lent_after number changed s)
  unfolding lent_after
  lent_alike number changed changed' e same = rw e (go (eqb number 0) refl)
    where
      go : (b : Bool) → eqb number 0 ≡ b → cond b changed' (rearranged s) ≡ rearranged (cond b changed s)
      go true q = same (eqb-true number 0 q)
      go false q = refl

  pub transferred_alike : (list : List ℕ) → transferred (rearranged s) list ≡ rearranged (transferred s list)
  unfolding transferred
  transferred_alike list =
      lent_alike (transfer_refusal s list) (changed s) (changed (rearranged s))
      (SameFigures.transfer_refusal_same s (rearranged s) (form_clear s form) past alike list) written
    where
      changed : List ℕ → List ℕ
      changed x = with_contracts (layout_of x) (volumes_after (month_of x) list) (header_of x).consumers x

      same_volumes : transfer_refusal s list ≡ 0 → (c : ℕ) → c < count
          → volumes_after (month_of (rearranged s)) list c ≡ volumes_after (month_of s) list c
      same_volumes none c b =
          unfold volumes_after in
          after_same list count (applied_limits s list none).1.names (contracts (month_of (rearranged s))) (contracts (month_of s))
          (λ k q. ap (λ (x : Consumer). x.contract) (alike.consumer k q)) (entries list) c b

      written : transfer_refusal s list ≡ 0 → changed (rearranged s) ≡ rearranged (changed s)
      written none =
          ap (λ (l : Layout). with_contracts l (volumes_after (month_of (rearranged s)) list) l.header.consumers (rearranged s)) (Version3.layout_after s form second)
          ∙ contracts_same after (volumes_after (month_of (rearranged s)) list) (volumes_after (month_of s) list) (rearranged s) count (same_volumes none)
          ∙ contracts_rearranged (volumes_after (month_of s) list) count (le_refl count)
          ∙ rw second refl

  pub averaged_alike : (r' : List ℕ) → averaged (rearranged s) r' ≡ rearranged (averaged s r')
  unfolding averaged
  averaged_alike r' =
      lent_alike (average_refusal s r') (peak_written s r') (peak_written (rearranged s) r')
      (SameFigures.average_refusal_same s (rearranged s) (form_clear s form) past alike r') written
    where
      written : average_refusal s r' ≡ 0 → peak_written (rearranged s) r' ≡ rearranged (peak_written s r')
      written none =
          unfold peak_written in
          ap (λ (l : Layout). with_peak l (complex r') (complex_peak l.header r') (rearranged s)) (Version3.layout_after s form second)
          ∙ peak_rearranged (complex r') (complex_peak (header_of s) r') (averaged_limits s r' none).1.0.complex
          ∙ rw second refl
