-- The sheet's length, where a producer's hours stand in it, and records that are read alike from the same
-- bytes. Assumes nothing.
use mathlib.Core.Path.{◌≡◌, refl, sym, ap, ◌∙◌}
use mathlib.Core.Bool.{Bool, true, false, cond}
use mathlib.Core.List.{List}
use Prim.Native.Nat.{ℕ, ◌+◌, ◌*◌, ◌≤◌, ◌<◌}
use native.Mathlib.Nat.{add-zero, add_assoc, mul-le-mul, mul-le-mul_left, mul-le-mul_right}
use native.Mathlib.Omega.{arith}
use borrow.Author.Tests.{le-ltb, lt-ltb}
use lib.ListN.{length, get_or}
use Rattle.rules.specs.declared.Header.{Header}
use Rattle.rules.specs.declared.Layout.{Layout}
use Rattle.rules.specs.declared.Series.{Series}
use Rattle.rules.specs.declared.HourSeries.{HourSeries}
use Rattle.rules.specs.Month.{hours}
use Rattle.rules.specs.Fields.{big_endian, bytes_from}
use Rattle.rules.specs.Sheet.{
  header_of,
  stated_width,
  hours_width,
  states_days,
  by_column,
  triples,
  columns,
  hour_series,
  row_width,
  consumer_width,
  producer_at,
  hours_at,
  row_at,
  consumer_at,
  sheet_length,
  stated_of,
  day_at,
  row_of,
  consumer_of,
}
use Rattle.laws.proofs.Arrays.{length-listed, get_or-listed}
use Rattle.laws.proofs.Fields.{same_bytes, Holds}

-- The width of a row: 10 in version 1, from version 2 on 12.
pub row_width_1 : (l : Layout) → l.version ≤ 1 → row_width l ≡ 10
unfolding row_width states_days
row_width_1 l v = rw (le-ltb 1 l.version v)

pub row_width_2 : (l : Layout) → 1 < l.version → row_width l ≡ 12
unfolding row_width states_days
row_width_2 l v = rw (lt-ltb 1 l.version v)

pub states_width : (l : Layout) → states_days l ≡ true → row_width l ≡ 12
unfolding row_width
states_width l e = rw e

-- In every version.
pub row_width_from : (l : Layout) → 10 ≤ row_width l
unfolding row_width
row_width_from l = go (states_days l)
  where
    go : (b : Bool) → 10 ≤ cond b 12 10
    go true = omega arith
    go false = omega arith

-- Where a producer's powers stand: hour by hour, or by column.
pub by_hour : (l : Layout) → by_column l ≡ false → hour_series l ≡ triples
unfolding hour_series
by_hour l e = rw e

pub by_column_means : (l : Layout) → by_column l ≡ true → hour_series l ≡ columns l.header
unfolding hour_series
by_column_means l e = rw e

-- In every version the powers of a series, in the hours of the month, end within the stretch.
abbrev pub Spans : Header → Series → Type 0
Spans h x = x.start + x.step * hours h + 4 ≤ hours_width h + x.step

abbrev pub AllSpan : Header → HourSeries → Type 0
AllSpan h x = Spans h x.working × Spans h x.possible × Spans h x.outside

pub series_span : (l : Layout) → AllSpan l.header (hour_series l)
unfolding hour_series
series_span l = go (by_column l)
  where
    go : (b : Bool) → AllSpan l.header (cond b (columns l.header) triples)
    go true = (omega arith, omega arith, omega arith)
    go false = (omega arith, omega arith, omega arith)

-- Each of them then ends within.
pub span_ends : (h : Header) (x : Series) → Spans h x → (i : ℕ) → i < hours h
    → x.start + x.step * i + 4 ≤ hours_width h
span_ends h x spans i b = omega (arith, spans, mul-le-mul_left x.step b)

-- Number 6's length, in document 01's words.
pub sheet_length_in_full : (l : Layout)
    → sheet_length l ≡ 14 + l.header.producers * (42 + 288 * l.header.days) + row_width l * l.header.rows + 15 * l.header.consumers
unfolding sheet_length consumer_at row_at producer_at
sheet_length_in_full l = omega arith

-- Rows before the count end where the consumers begin.
pub rows_end : (l : Layout) (j : ℕ) → j < l.header.rows → row_at l j + row_width l ≤ consumer_at l 0
unfolding consumer_at row_at
rows_end l j b = omega (arith, mul-le-mul_left (row_width l) b)

-- The hours of a producer below P end within the sheet.
pub hours_inside : (l : Layout) (p : ℕ) → p < l.header.producers
    → hours_at l p + hours_width l.header ≤ sheet_length l
unfolding sheet_length consumer_at row_at hours_at producer_at
hours_inside l p b = omega (arith, mul-le-mul_right (42 + 288 * l.header.days) b)

-- So do a row below R and a consumer below C.
pub row_inside : (l : Layout) (j : ℕ) → j < l.header.rows → row_at l j + row_width l ≤ sheet_length l
unfolding sheet_length consumer_at
row_inside l j b = unfold consumer_at in omega (arith, rows_end l j b)

pub consumer_inside : (l : Layout) (c : ℕ) → c < l.header.consumers
    → consumer_at l c + consumer_width l ≤ sheet_length l
unfolding sheet_length consumer_at
consumer_inside l c b = omega arith

-- The bytes before a producer's place are not many, whatever a header's bytes say.
pub producers_le : (p days : ℕ) → p ≤ 255 → days ≤ 255 → p * (42 + 288 * days) ≤ 18737910
producers_le p days hp hd = mul-le-mul {n₂ = 255} {m₂ = 73482} hp (omega arith)

-- In n bytes from two places, every field reads the same.
abbrev pub SameFields : ℕ → List ℕ → ℕ → List ℕ → ℕ → Type 0
SameFields n t to s from = (w k : ℕ) → k + w ≤ n → big_endian w t (to + k) ≡ big_endian w s (from + k)

pub same_fields : (n : ℕ) (t : List ℕ) (to : ℕ) (s : List ℕ) (from : ℕ)
    → ((i : ℕ) → i < n → get_or t (to + i) 0 ≡ get_or s (from + i) 0) → SameFields n t to s from
same_fields n t to s from h w k b =
    same_bytes w t s (to + k) (from + k)
    (λ i l. ap (λ (x : ℕ). get_or t x 0) (add_assoc to k i) ∙ h (k + i) (omega arith) ∙ ap (λ (x : ℕ). get_or s x 0) (sym (add_assoc from k i)))

-- Bytes of s that stand in t.
pub length-from : (s : List ℕ) (at n : ℕ) → length (bytes_from s at n) ≡ n
unfolding bytes_from
length-from s at n = length-listed _ n

pub held_from : (n : ℕ) (t : List ℕ) (to : ℕ) (s : List ℕ) (from : ℕ) → Holds t to (bytes_from s from n)
    → SameFields n t to s from
unfolding bytes_from
held_from n t to s from h =
    same_fields n t to s from (λ i l. h.byte i (rw length-listed l) ∙ get_or-listed 0 _ n i l)

-- So is the header, whose month and counts follow the version,
pub header_same : (t s : List ℕ) → SameFields 9 t 5 s 5 → header_of t ≡ header_of s
header_same t s field =
    rw (
      field 1 0 (omega arith),
      field 1 1 (omega arith),
      field 4 2 (omega arith),
      field 1 6 (omega arith),
      field 1 7 (omega arith),
      field 1 8 (omega arith),
    )

-- and every record.
module _ (t : List ℕ) (to : ℕ) (s : List ℕ) (from : ℕ) where
  pub front_same : {n : ℕ} (w : ℕ) → w ≤ n → SameFields n t to s from
      → big_endian w t to ≡ big_endian w s from
  front_same w b field = rw (add-zero to, add-zero from) at (field w 0 (omega arith))

  pub stated_same : SameFields stated_width t to s from → stated_of t to ≡ stated_of s from
  stated_same field =
      rw (
        front_same 4 (omega arith) field,
        field 4 4 (omega arith),
        field 4 8 (omega arith),
        field 2 12 (omega arith),
        field 2 14 (omega arith),
        field 2 16 (omega arith),
        field 4 18 (omega arith),
        field 4 22 (omega arith),
        field 4 26 (omega arith),
        field 4 30 (omega arith),
        field 4 34 (omega arith),
        field 4 38 (omega arith),
      )

  module _ (l : Layout) (field : SameFields (row_width l) t to s from) where
    -- A day that is stated, or not.
    day_same : (k d : ℕ) → k < 12 → day_at l t (to + k) d ≡ day_at l s (from + k) d
    unfolding day_at
    day_same k d q = go (states_days l) refl
      where
        go : (b : Bool) → states_days l ≡ b
            → cond b (big_endian 1 t (to + k)) d ≡ cond b (big_endian 1 s (from + k)) d
        go true e = field 1 k (omega (arith, states_width l e))
        go false e = refl

    pub row_same : row_of l t to ≡ row_of l s from
    row_same =
        let wide = row_width_from l in
        rw (
          front_same 1 (omega (arith, wide)) field,
          field 1 1 (omega (arith, wide)),
          field 4 2 (omega (arith, wide)),
          field 4 6 (omega (arith, wide)),
          day_same 10 1 (omega arith),
          day_same 11 l.header.days (omega arith),
        )

  pub consumer_same : SameFields 15 t to s from → consumer_of t to ≡ consumer_of s from
  consumer_same field =
      rw (
        front_same 4 (omega arith) field,
        field 4 4 (omega arith),
        field 1 8 (omega arith),
        field 1 9 (omega arith),
        field 1 10 (omega arith),
        field 4 11 (omega arith),
      )
