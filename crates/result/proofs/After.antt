-- The number of a month, from its records and its hours, and what is left in the buffer. Assumes nothing.
use mathlib.Core.Path.{◌≡◌, refl, sym, ◌∙◌}
use mathlib.Core.Bool.{Bool, true, false, cond, ◌&&◌, ◌||◌}
use mathlib.Core.List.{List}
use Prim.Native.Nat.{ℕ, ◌≤◌}
use borrow.Author.Tests.{eq-eqb, ne_eqb}
use native.Mathlib.Omega.{arith}
use lib.Dec.{ltb, eqb}
use lib.ListN.{length}
use Rattle.std.specs.Prelude.{Result, OnOk}
use Rattle.rules.specs.declared.Layout.{Layout}
use Rattle.rules.specs.declared.Refusal.{Refusal}
use Rattle.rules.specs.Said.{number_or_none}
use Rattle.rules.specs.Fields.{over}
use Rattle.rules.specs.Result.{result_length, result_of}
use Rattle.rules.specs.Limits.{HeaderLimits, MonthLimits}
use Rattle.refusals_sheet.specs.Numbers.{month_number, record_number, high_hours, with_hours}
use Rattle.refusals_sheet.proofs.Numbers.{month_with_hours, record_kept, month_kept}
use Rattle.sheet.specs.declared.records.Sheet.{Sheet}
use Rattle.result.specs.After.{month_after}
use Rattle.sheet.specs.Month.{month_in}

-- A number that the records have stays one.
number_kept : (n : ℕ) (high : Bool) → 1 ≤ n → 1 ≤ with_hours n high
unfolding with_hours
number_kept n high p = go (high && (eqb n 0 || ltb 9 n))
  where
    go : (b : Bool) → 1 ≤ cond b 9 n
    go true = omega arith
    go false = p

-- Where they have none, the hours' is 9 or none.
pub nine_alone : (high : Bool) → cond high 9 0 ≡ with_hours 0 high
unfolding with_hours
nine_alone true = refl
nine_alone false = refl

pub none_high : (high : Bool) → with_hours 0 high ≡ 0 → high ≡ false
unfolding with_hours
none_high true e = absurd (omega arith)
none_high false e = refl

-- What holds where there is no number holds of an Ok.
pub on_ok : {P : Type 0} (r : Result (Unit {0}) Refusal) → (number_or_none r ≡ 0 → P) → OnOk r P
on_ok (Result.Ok done) p = p refl
on_ok (Result.Err refusal) p = tt

module _ (layout : Layout) (s out : List ℕ) where
  abbrev number : ℕ
  number = month_number layout s (length out)

  -- The records' number with the hours is the month's.
  pub answer : {n : ℕ} → n ≡ record_number layout s (length out)
      → with_hours n (high_hours layout s layout.header.producers) ≡ number
  answer e = rw e (sym (month_with_hours layout s (length out)))

  -- A month with a number: the buffer as it was.
  pub kept : {n : ℕ} → n ≡ number → 1 ≤ n → out ≡ month_after layout s out
  unfolding month_after
  kept e p = rw (ne_eqb number 0 (λ z. omega (arith, p, e, z)))

  -- Where the records have a number, so has the month.
  pub kept_by_records : {n : ℕ} → n ≡ record_number layout s (length out) → 1 ≤ n
      → out ≡ month_after layout s out
  kept_by_records e p = kept (answer e) (number_kept _ _ p)

  -- A sheet whose records have none: its header and the room are right, and its hours' number is the month's.
  module _ (sheet : Sheet) (none : 0 ≡ record_number layout s (length out))
      (same : (sheet.bytes.now ≡ s) × (sheet.layout ≡ layout)) where
    pub header_kept : HeaderLimits sheet.layout.header
    header_kept = rw same.1 (record_kept layout s (length out) (sym none)).0.0

    pub room_kept : result_length sheet.layout.header ≤ length out
    room_kept = rw same.1 (record_kept layout s (length out) (sym none)).1

    abbrev hours_number : ℕ
    hours_number = with_hours 0 (high_hours sheet.layout sheet.bytes.now sheet.layout.header.producers)

    pub hours_answer : {n : ℕ} → n ≡ hours_number → n ≡ number
    hours_answer e = e ∙ rw (same.1, same.0) (answer none)

    -- Without a number the month keeps to its limits, and its result over the buffer's front is asked.
    module _ (low : 0 ≡ hours_number) where
      pub limits : MonthLimits (month_in sheet)
      limits = rw (same.1, same.0) (month_kept layout s (length out) (sym (hours_answer low))).0.0

      pub written : {x : List ℕ} → x ≡ over (result_of (month_in sheet)) out → x ≡ month_after layout s out
      unfolding month_after
      written e = e ∙ rw (same.1, same.0, eq-eqb number 0 (sym (hours_answer low)))
