-- What the entry answers and leaves. Assumes nothing.
use mathlib.Core.Path.{◌≡◌, refl, sym, ap, ◌∙◌}
use mathlib.Core.List.{List}
use Prim.Native.Nat.{ℕ, ◌≤◌}
use native.Mathlib.Omega.{arith}
use lib.ListN.{length}
use Rattle.rules.specs.declared.Layout.{Layout}
use Rattle.rules.specs.declared.Refusal.{Refusal}
use Rattle.rules.specs.Fields.{over}
use Rattle.rules.specs.Sheet.{header_of, layout_of, month_under}
use Rattle.rules.specs.Limits.{MonthLimits, LimitsFor}
use Rattle.rules.specs.Refusals.{tests_for, first_of}
use Rattle.rules.specs.Said.{number_of}
use Rattle.rules.specs.Outcome.{refused, written}
use Rattle.rules.specs.Result2015.{length_2015, result_2015}
use Rattle.rules.specs.Outcome2015.{tests_2015, refusal_2015, outcome_2015, buffer_after_2015}
use Rattle.laws.proofs.Refusals.{limits_for}
use Rattle.laws.proofs.Answers.{says_refused, says_written, kept, is_changed}
use Rattle.refusals_form.proofs.Refused.{from_one}

module _ (s out : List ℕ) where
  -- The first number that applies, 0 where none does.
  abbrev first : ℕ
  first = first_of (tests_for (length_2015 (header_of s)) s (length out))

  told_first : first ≡ refusal_2015 s (length out)
  told_first = unfold refusal_2015 tests_2015 in refl

  -- One applies.
  applies : 1 ≤ first → refusal_2015 s (length out) ≡ 0 → ⊥
  applies one none = omega (arith, told_first)

  pub told_refused : (refusal : Refusal)
      → number_of refusal ≡ first_of (tests_for (length_2015 (header_of s)) s (length out))
      → outcome_2015 s (length out) ≡ refused (number_of refusal)
  unfolding outcome_2015
  told_refused refusal e =
      says_refused _ _ (applies (omega (arith, from_one refusal, e))) ∙ ap refused (sym (e ∙ told_first))

  pub left_alone : 1 ≤ first_of (tests_for (length_2015 (header_of s)) s (length out))
      → buffer_after_2015 s out ≡ out
  unfolding buffer_after_2015
  left_alone one = kept _ _ out (applies one)

  -- None applies.
  module _ (none : 0 ≡ first_of (tests_for (length_2015 (header_of s)) s (length out))) where
    limits : LimitsFor (length_2015 (header_of s)) s (length out)
    limits = limits_for (length_2015 (header_of s)) s (length out) (sym none)

    pub enough_room : length_2015 (header_of s) ≤ length out
    enough_room = limits.enough_room

    pub told_written : outcome_2015 s (length out) ≡ written (length_2015 (header_of s))
    unfolding outcome_2015
    told_written = says_written _ _ (sym (none ∙ told_first))

    -- The sheet that is read.
    module _ (bytes : List ℕ) (layout : Layout) (same : bytes ≡ s) (told : layout ≡ layout_of s) where
      pub month_limits : MonthLimits (month_under layout bytes)
      month_limits = rw (same, told) limits.month

      pub result_left : buffer_after_2015 s out ≡ over (result_2015 (month_under layout bytes)) out
      unfolding buffer_after_2015
      result_left = is_changed _ _ out (sym (none ∙ told_first)) ∙ rw (same, told)

-- What the entry's proof goes by.
pub ruleset settling = (from_one, told_refused, left_alone, enough_room, told_written, result_left)
