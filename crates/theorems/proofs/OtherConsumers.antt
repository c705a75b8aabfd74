-- A sheet that differs from another in its consumers alone: its month is the other with those consumers, and
-- so is its result. Assumes nothing.
use mathlib.Core.Path.{◌≡◌, refl, sym, ap, subst, ◌∙◌}
use mathlib.Core.List.{List}
use Prim.Native.Nat.{ℕ, ◌+◌, ◌*◌, ◌≤◌, ◌<◌}
use native.Mathlib.Nat.{mul-le-mul_right}
use native.Mathlib.Omega.{arith}
use lib.ListN.{length, get_or}
use Rattle.rules.specs.declared.Header.{Header}
use Rattle.rules.specs.declared.Consumer.{Consumer}
use Rattle.rules.specs.declared.Layout.{Layout}
use Rattle.rules.specs.Month.{hours, with_consumers}
use Rattle.rules.specs.Limits.{HeaderLimits, ConsumerLimits, FormLimits, MonthLimits}
use Rattle.rules.specs.Fields.{big_endian, over}
use Rattle.rules.specs.Sheet.{
  version,
  length_field,
  header_of,
  layout_of,
  month_of,
  month_under,
  hours_width,
  producer_at,
  hours_at,
  producer_under,
  row_at,
  row_of,
  consumer_at,
  consumer_of,
  sheet_length,
}
use Rattle.rules.specs.Result.{result_length, result_of}
use Rattle.rules.specs.Refusals.{refusal}
use Rattle.rules.specs.Outcome.{Accepted, buffer_after}
use Rattle.laws.proofs.Fields.{same_bytes}
use Rattle.laws.proofs.Sheet.{rows_end, header_same, row_same}
use Rattle.laws.proofs.Refusals.{limits, accepted}
use Rattle.laws.proofs.Answers.{is_changed}
use Rattle.theorems.specs.Alike.{SameProducer, Alike}
use Rattle.theorems.proofs.Alike.{producer_same, alike_limits, alike_result}

-- A producer below P, and a row below R, end where the consumers begin.
producer_ends : (l : Layout) (p : ℕ) → p < l.header.producers
    → hours_at l p + hours_width l.header ≤ consumer_at l 0
unfolding consumer_at row_at hours_at producer_at
producer_ends l p b = omega (arith, mul-le-mul_right (42 + 288 * l.header.days) b)

header_ends : (l : Layout) → 14 ≤ consumer_at l 0
unfolding consumer_at row_at producer_at
header_ends l = omega arith

-- t is as long as s, and has the same bytes before its consumers.
module _ (s t : List ℕ) (as_long : length t ≡ length s) (front_kept : (i : ℕ) → i < consumer_at (layout_of s) 0 → get_or t i 0 ≡ get_or s i 0) where
  -- A field before the consumers.
  front : (w at : ℕ) → at + w ≤ consumer_at (layout_of s) 0 → big_endian w t at ≡ big_endian w s at
  front w at e = same_bytes w t s at at (λ i b. front_kept (at + i) (omega arith))

  in_header : (w at : ℕ) → at + w ≤ 14 → big_endian w t at ≡ big_endian w s at
  in_header w at e = front w at (omega (arith, header_ends (layout_of s)))

  pub same_layout : layout_of t ≡ layout_of s
  unfolding version
  same_layout = rw (in_header 1 4 (omega arith), header_same t s (λ w k b. in_header w (5 + k) (omega arith)))

  same_length_field : length_field t ≡ length_field s
  unfolding length_field
  same_length_field = in_header 4 0 (omega arith)

  same_producer : (p : ℕ) → p < (header_of s).producers → SameProducer (hours (header_of s)) (producer_under (layout_of s) s p) (producer_under (layout_of s) t p)
  same_producer p b =
      let ends = producer_ends (layout_of s) p b in
      producer_same (layout_of s) (layout_of s) s t p (λ w k q. front w (producer_at (layout_of s) p + k) (unfold hours_at in omega (arith, ends))) refl

  same_row : (j : ℕ) → j < (header_of s).rows
      → row_of (layout_of s) t (row_at (layout_of s) j) ≡ row_of (layout_of s) s (row_at (layout_of s) j)
  same_row j b =
      let ends = rows_end (layout_of s) j b in
      row_same t (row_at (layout_of s) j) s (row_at (layout_of s) j) (layout_of s) (λ w k q. front w (row_at (layout_of s) j + k) (omega (arith, ends)))

  -- Its consumers are those of k.
  module _ (k : ℕ → Consumer) (read : (c : ℕ) → c < (header_of s).consumers → consumer_of t (consumer_at (layout_of s) c) ≡ k c) where
    pub alike_after : Alike (with_consumers (month_of s) k) (month_of t)
    alike_after =
        subst (λ (x : Layout). Alike (with_consumers (month_of s) k) (month_under x t)) (sym same_layout)
        (record { header = refl; producer = same_producer; row = same_row; consumer = read })

    -- Where they keep to their limits, an accepted sheet stays accepted.
    module _ (form : FormLimits s) (fine : (c : ℕ) → c < (header_of s).consumers → ConsumerLimits (header_of s) (k c)) where
      pub with_limits : MonthLimits (month_of s) → MonthLimits (with_consumers (month_of s) k)
      with_limits w = record { header = w.header; producer = w.producer; row = w.row; consumer = fine }

      header_kept : header_of t ≡ header_of s
      header_kept = ap (λ (x : Layout). x.header) same_layout

      form_after : FormLimits t
      form_after =
          record {
            whole_header = rw as_long form.whole_header;
            length_told = same_length_field ∙ form.length_told ∙ sym as_long;
            version_from = rw (ap (λ (x : Layout). x.version) same_layout) form.version_from;
            version_to = rw (ap (λ (x : Layout). x.version) same_layout) form.version_to;
            header = subst HeaderLimits (sym header_kept) form.header;
            length_right = same_length_field ∙ form.length_right ∙ ap sheet_length (sym same_layout);
          }

      pub stays : (bytes : ℕ) → Accepted s bytes → Accepted t bytes
      stays bytes a =
          let w = limits s bytes a in
          accepted t bytes
          (record {
            form = form_after;
            enough_room = subst (λ (h : Header). result_length h ≤ bytes) (sym header_kept) w.enough_room;
            month =
                alike_limits (with_consumers (month_of s) k) (month_of t) alike_after (with_limits w.month);
          })

      -- And its result is that of the month with these consumers.
      pub settled : (out : List ℕ) → Accepted s (length out)
          → buffer_after t out ≡ over (result_of (with_consumers (month_of s) k)) out
      unfolding buffer_after
      settled out a =
          is_changed (refusal t (length out)) (over (result_of (month_of t)) out) out (stays (length out) a)
          ∙ (ap (λ (x : List ℕ). over x out)
          (alike_result (with_consumers (month_of s) k) (month_of t) alike_after (with_limits (limits s (length out) a).month)))
