-- Demand 3 over sheets and results, byte for byte. Assumes nothing.
use mathlib.Core.Path.{◌≡◌, sym, ap, ◌∙◌}
use mathlib.Core.List.{List}
use Prim.Native.Nat.{ℕ, ◌+◌, ◌≤◌, ◌<◌}
use native.Mathlib.Omega.{arith}
use lib.ListN.{length, take, drop, get_or}
use lib.Seq.{get_or-take}
use Rattle.rules.specs.declared.Header.{Header}
use Rattle.rules.specs.Month.{Month}
use Rattle.rules.specs.Limits.{MonthLimits}
use Rattle.rules.specs.Fields.{big_endian, over}
use Rattle.rules.specs.Sheet.{header_width, header_of, month_of}
use Rattle.rules.specs.Result.{
  read_row,
  read_consumer,
  read_totals,
  row_figures,
  consumer_figures,
  total_figures,
  result_of,
}
use Rattle.rules.specs.Refusals.{refusal}
use Rattle.rules.specs.Outcome.{Accepted, buffer_after}
use Rattle.laws.proofs.Fields.{same_bytes, Holds, holds_front}
use Rattle.laws.proofs.Sheet.{header_same}
use Rattle.laws.proofs.Refusals.{limits}
use Rattle.laws.proofs.Answers.{is_changed}
use Rattle.laws.proofs.Cut.{cut_le_volume}
use Rattle.laws.proofs.Rows.{actual_le_cut}
use Rattle.theorems.specs.Demand3.{Worse, MoreRowsKeepAttested, WorseSheet, NoBetter, OnlyCut}
use Rattle.theorems.proofs.ReadBack.{row_read, consumer_read, totals_read}
use Rattle.theorems.proofs.Months as Months

-- A field within the first n bytes is the same where those are.
front_same : (n w at : ℕ) (s t : List ℕ) → take n s ≡ take n t → at + w ≤ n
    → big_endian w s at ≡ big_endian w t at
front_same n w at s t e l = same_bytes w s t at at (λ i q. byte i (omega arith))
  where
    byte : (i : ℕ) → at + i < n → get_or s (at + i) 0 ≡ get_or t (at + i) 0
    byte i q = sym (get_or-take n s (at + i) 0 q) ∙ ap (λ (x : List ℕ). get_or x (at + i) 0) e ∙ get_or-take n t (at + i) 0 q

pub same_header : (s s' : List ℕ) → take header_width s' ≡ take header_width s → header_of s' ≡ header_of s
same_header s s' e = header_same s' s (λ w k b. front_same 14 w (5 + k) s' s e (omega arith))

-- A buffer begins with what was written over its front; after an accepted sheet that is the result.
pub over_begins : (p out : List ℕ) {x : List ℕ} → x ≡ over p out → Holds x 0 p
unfolding over
over_begins p out e = rw e (holds_front p (drop (length p) out))

pub begins : (s out : List ℕ) → Accepted s (length out)
    → Holds (buffer_after s out) 0 (result_of (month_of s))
unfolding buffer_after
begins s out a = over_begins (result_of (month_of s)) out (is_changed (refusal s (length out)) (over (result_of (month_of s)) out) out a)

-- The last sentence of demand 3.
pub only_cut : (s out : List ℕ) → Accepted s (length out) → OnlyCut s (buffer_after s out)
only_cut s out a =
    let m = month_of s in
    let w = (limits s (length out) a).month in
    let read = row_read m w (buffer_after s out) (begins s out a) in
    record {
      actual = λ j l. rw (read j l) (actual_le_cut m w j l);
      after_cut = λ j l. rw (read j l) (cut_le_volume m j);
    }

-- Two months with one header, the second worse, and two buffers that begin with their results.
module _ (m m' : Month) (e : m'.header ≡ m.header) (w : MonthLimits m) (w' : MonthLimits m') (worse : Worse m m') (keeps : MoreRowsKeepAttested m m')
    (out out' : List ℕ) (b : Holds out 0 (result_of m)) (b' : Holds out' 0 (result_of m')) where
  row' : (j : ℕ) → j < m.header.rows → read_row out' j ≡ row_figures m' j
  row' j l = row_read m' w' out' b' j (rw (ap (λ (h : Header). h.rows) e) l)

  consumer' : (c : ℕ) → c < m.header.consumers → read_consumer m.header out' c ≡ consumer_figures m' c
  consumer' c l =
      ap (λ (h : Header). read_consumer h out' c) (sym e)
      ∙ consumer_read m' w' out' b' c (rw (ap (λ (h : Header). h.consumers) e) l)

  totals' : read_totals m.header out' ≡ total_figures m'
  totals' = ap (λ (h : Header). read_totals h out') (sym e) ∙ totals_read m' w' out' b'

  pub months_no_better : NoBetter m.header out out'
  months_no_better =
      record {
        row_actual =
            λ j l. rw (row' j l, row_read m w out b j l) (Months.actual_down m m' e w worse keeps j l);
        row_payment =
            λ j l. rw (row' j l, row_read m w out b j l) (Months.payment_down m m' e w worse keeps j l);
        consumer_volume = λ c l. rw (consumer' c l, consumer_read m w out b c l) (Months.volume_up m m' e w worse keeps c l);
        consumer_charge = λ c l. rw (consumer' c l, consumer_read m w out b c l) (Months.charge_up m m' e w worse keeps c l);
        total_paid = rw (totals', totals_read m w out b) (Months.paid_down m m' e w worse keeps);
        total_charged = rw (totals', totals_read m w out b) (Months.charged_up m m' e w worse keeps);
      }

-- Demand 3.
pub no_better : (s s' out out' : List ℕ) → Accepted s (length out) → Accepted s' (length out')
    → WorseSheet s s'
    → MoreRowsKeepAttested (month_of s) (month_of s')
    → NoBetter (header_of s) (buffer_after s out) (buffer_after s' out')
no_better s s' out out' a a' w keeps =
    months_no_better (month_of s) (month_of s') (same_header s s' w.header)
    (limits s (length out) a).month (limits s' (length out') a').month w.figures keeps
    (buffer_after s out) (buffer_after s' out') (begins s out a) (begins s' out' a')
