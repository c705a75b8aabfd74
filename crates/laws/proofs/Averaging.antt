-- Industrial complexes: what a record keeps to that is not refused. Assumes nothing.
use mathlib.Core.Path.{◌≡◌, sym, ◌∙◌}
use mathlib.Core.Bool.{false}
use mathlib.Core.List.{List}
use Prim.Native.Nat.{ℕ, ◌≤◌, ◌<◌}
use borrow.Author.Tests.{leb-false, eqb-true}
use lib.ListN.{length}
use Rattle.rules.specs.declared.Header.{Header}
use Rattle.rules.specs.Units.{tenths_ceiling}
use Rattle.rules.specs.Limits.{FormLimits, MonthLimits}
use Rattle.rules.specs.Month.{hours}
use Rattle.rules.specs.Sheet.{header_of, month_of}
use Rattle.rules.specs.Refusals.{sheet_tests, first_of, applies}
use Rattle.rules.specs.ComplexRecord.{record_width, complex, imported, drawn, sent}
use Rattle.rules.specs.Averaging.{
  bad_record,
  high_at,
  high_record,
  record_tests,
  average_tests,
  average_refusal,
}
use Rattle.laws.proofs.Range.{any_clear}
use Rattle.laws.proofs.Refusals.{
  none_applies,
  first_both,
  none_of,
  not_true,
  high_clear,
  sheet_numbered,
  sheet_limits,
}

-- A record that 16 lets pass: it is as long as the month asks, and names a consumer of the sheet.
pub record WholeRecord (h : Header) (r : List ℕ) : Type 0 where
  pub as_long : length r ≡ record_width h
  pub complex : complex r < h.consumers

-- One that 17 lets pass too.
pub record LowRecord (h : Header) (r : List ℕ) : Type 0 where
  pub imported : imported r ≤ tenths_ceiling
  pub drawn : (i : ℕ) → i < hours h → drawn r i ≤ tenths_ceiling
  pub sent : (i : ℕ) → i < hours h → sent r i ≤ tenths_ceiling

module _ (h : Header) (r : List ℕ) where
  pub whole_record : bad_record h r ≡ false → WholeRecord h r
  unfolding bad_record
  whole_record e =
      let a = none_of _ e in
      record {
        as_long = sym (eqb-true _ _ (not_true _ a.1.0)) ∙ eqb-true _ _ (not_true _ a.1.1.0);
        complex = leb-false _ _ a.1.1.1.0;
      }

  low_record : high_record h r ≡ false → LowRecord h r
  unfolding high_record high_at
  low_record e =
      let a = none_of _ e in
      let hour : (i : ℕ) → i < hours h → (drawn r i ≤ tenths_ceiling) × (sent r i ≤ tenths_ceiling) =
      λ i l. let b = none_of _ (any_clear _ _ a.1.0 i l) in (high_clear _ b.0, high_clear _ b.1.0) in
      record { imported = high_clear _ a.0; drawn = λ i l. (hour i l).0; sent = λ i l. (hour i l).1 }

  pub record_limits : first_of (record_tests h r) ≡ 0 → WholeRecord h r × LowRecord h r
  unfolding record_tests applies
  record_limits e = (
    whole_record (none_applies (record_tests h r) tt e 16),
    low_record (none_applies (record_tests h r) tt e 17),
  )

-- A record that is taken: the sheet keeps to its limits, and so does the record.
pub averaged_limits : (s r : List ℕ) → average_refusal s r ≡ 0
    → (FormLimits s × MonthLimits (month_of s)) × (WholeRecord (header_of s) r × LowRecord (header_of s) r)
unfolding average_refusal average_tests
averaged_limits s r e =
    let both = first_both (sheet_tests s) (record_tests (header_of s) r) (sheet_numbered s) e in
    (sheet_limits s both.0, record_limits (header_of s) r both.1)
