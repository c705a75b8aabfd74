-- The table of control weekdays, entry by entry: what it says where it has an entry is the weekday rule.
-- Assumes nothing.
use mathlib.Core.Path.{◌≡◌, refl, sym, ◌∙◌}
use mathlib.Core.Bool.{Bool, true, false, cond, ◌&&◌}
use mathlib.Core.List.{List}
use mathlib.Core.Logic.{◌⊎◌, inl, inr, ⊎_elim}
use Prim.Native.Nat.{ℕ, zero, suc, ◌≤◌, ◌<◌}
use native.Mathlib.Nat.{not-suc-le-zero}
use native.Mathlib.Omega.{arith}
use lib.Dec.{leb, eqb}
use borrow.Author.Tests.{le-leb, leb-true, leb-false}
use lib.ListN.{length, get_or, replicate, length-replicate, get_or-replicate, get_or-eq_default}
use Rattle.rules.specs.declared.Header.{Header}
use Rattle.rules.specs.Range.{listed}
use Rattle.rules.specs.ControlHours.{control_weekday, control_day}
use Rattle.rules.specs.ControlTable.{yes, no, control_weekdays, line_of, says, table_day, in_table}
use Rattle.laws.proofs.Arrays.{length-listed, get_or-listed}
use Rattle.laws.proofs.Range.{both}

-- The entries of a month that begins on a weekday, by the rule.
abbrev entries : ℕ → List ℕ
entries first = listed (λ day. cond (control_weekday first day) yes no) 31

-- The table's line of a weekday, whatever is read past the table's end.
line_read : (d : List ℕ) (i : ℕ) → i < 7 → get_or control_weekdays i d ≡ entries (suc i)
unfolding control_weekdays
line_read d i l = get_or-listed d (λ i. entries (suc i)) 7 i l

pub line_at : (d : List ℕ) (i : ℕ) → i < 7 → get_or control_weekdays i d ≡ line_of (suc i)
unfolding line_of
line_at d i l = line_read d i l ∙ sym (line_read (replicate 31 no) i l)

-- Before Monday and past Sunday there is none.
pub line_none : (first : ℕ) → (first ≡ 0) ⊎ (7 < first) → replicate 31 no ≡ line_of first
unfolding line_of control_weekdays
line_none zero none = refl
line_none (suc i) (inl e) = absurd (omega arith)
line_none (suc i) (inr past) =
    sym (get_or-eq_default (listed (λ i. entries (suc i)) 7) (replicate 31 no) {n = i} (omega (arith, length-listed (λ i. entries (suc i)) 7)))

-- A number is a weekday's or none's.
weekday : (first : ℕ) → ((1 ≤ first) × (first ≤ 7)) ⊎ ((first ≡ 0) ⊎ (7 < first))
weekday zero = inr (inl refl)
weekday (suc i) = go (leb (suc i) 7) refl
  where
    go : (t : Bool) → leb (suc i) 7 ≡ t → ((1 ≤ suc i) × (suc i ≤ 7)) ⊎ ((suc i ≡ 0) ⊎ (7 < suc i))
    go true e = inl (omega arith, leb-true _ _ e)
    go false e = inr (inr (leb-false _ _ e))

-- A weekday's line is what the rule gives.
line_is : (first : ℕ) → 1 ≤ first → first ≤ 7 → line_of first ≡ entries first
unfolding line_of
line_is zero from to = absurd (not-suc-le-zero from)
line_is (suc i) from to = line_read (replicate 31 no) i to

-- All lines have 31 entries.
pub line_length : (first : ℕ) → length (line_of first) ≡ 31
line_length first =
    ⊎_elim (λ w. rw (line_is first w.0 w.1) (length-listed (λ day. cond (control_weekday first day) yes no) 31))
    (λ n. rw (sym (line_none first n)) (length-replicate 31 no)) (weekday first)

-- An entry that was written by a test says what the test says.
reads : (b : Bool) → eqb (cond b yes no) yes ≡ b
reads true = refl
reads false = refl

-- All 217: an entry says yes exactly when its day falls on Monday to Friday.
pub entry_right : (first day : ℕ) → 1 ≤ first → first ≤ 7 → day < 31
    → says first day ≡ control_weekday first day
unfolding says
entry_right first day from to within =
    rw (
      line_is first from to,
      get_or-listed 0 (λ d. cond (control_weekday first d) yes no) 31 day within,
    )
    (reads (control_weekday first day))

-- Where there is no line, and past the end of one, the table says no.
pub no_weekday : (first day : ℕ) → (first ≡ 0) ⊎ (7 < first) → says first day ≡ false
unfolding says
no_weekday first day none = rw (sym (line_none first none)) (go (leb 31 day) refl)
  where
    go : (t : Bool) → leb 31 day ≡ t → eqb (get_or (replicate 31 no) day 0) yes ≡ false
    go true e = rw (get_or-eq_default (replicate 31 no) 0 {n = day} (leb-true _ _ e))
    go false e = rw (get_or-replicate 31 day no 0 (leb-false _ _ e))

pub no_day : (first day : ℕ) → 31 ≤ day → says first day ≡ false
unfolding says
no_day first day past = rw (get_or-eq_default (line_of first) 0 {n = day} (omega (arith, line_length first)))

-- So a control day is the same by the table and by the rule.
pub table_day_same : (h : Header) (day : ℕ) → 1 ≤ h.weekday → h.weekday ≤ 7 → day < 31
    → table_day h day ≡ control_day h day
unfolding table_day control_day
table_day_same h day from to within = rw (entry_right h.weekday day from to within)

-- What holds of a month that the table has, and when it has one.
module _ (h : Header) where
  pub in_table_means : in_table h ≡ true → (h.days ≤ 31) × (1 ≤ h.weekday) × (h.weekday ≤ 7)
  unfolding in_table
  in_table_means e =
      let days = both (leb 1 h.weekday && leb h.weekday 7) _ e in
      let weekday = both _ _ days.0 in
      (leb-true _ _ days.1, leb-true _ _ weekday.0, leb-true _ _ weekday.1)

  pub is_in_table : h.days ≤ 31 → 1 ≤ h.weekday → h.weekday ≤ 7 → in_table h ≡ true
  unfolding in_table
  is_in_table days from to = rw (le-leb 1 h.weekday from, le-leb h.weekday 7 to, le-leb h.days 31 days)
