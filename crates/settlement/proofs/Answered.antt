-- What a settlement answers and leaves, from the first list of tests that has a number. Assumes nothing.
use Rattle.std.proofs.Common.{◌≡◌, ℕ, ◌≤◌, List, ◌++◌, length, refl, sym, ◌∙◌, append_assoc, arith}
use borrow.Author.Tests.{eqb-true}
use Rattle.rules.specs.declared.Layout.{Layout}
use Rattle.rules.specs.declared.Refusal.{Refusal}
use Rattle.rules.specs.Sheet.{length_field, header_of, layout_of, month_of}
use Rattle.rules.specs.Fields.{over}
use Rattle.rules.specs.Result.{result_length, result_of}
use Rattle.rules.specs.Refusals.{front_tests, header_tests, form_tests, room_tests, figure_tests, tests_for}
use Rattle.rules.specs.Refusals.{tests}
use Rattle.rules.specs.Refusals.{applies, first_of, refusal}
use Rattle.rules.specs.Outcome.{refused, written, lent_after, outcome, buffer_after}
use Rattle.rules.specs.Said.{number_of}
use Rattle.laws.proofs.Refusals.{none_applies, first_stands, not_true, front_numbered}
use Rattle.laws.proofs.Answers as Answers
use Rattle.refusals_form.proofs.Refused.{from_one, first_refuses, second_finds}
use Rattle.refusals_sheet.specs.Numbers.{month_number}
use Rattle.result.specs.After.{month_after}

not_none : (r : Refusal) → number_of r ≡ 0 → ⊥
not_none r z = omega (arith, from_one r, z)

-- The tests past the first three, with the length that the sheet states.
in_order : (s : List ℕ) (room : ℕ) → refusal s room
    ≡ first_of
    (front_tests s
    ++ (header_tests (layout_of s) (length_field s)
    ++ (room_tests (result_length (header_of s)) room ++ figure_tests (month_of s))))
unfolding refusal tests tests_for form_tests
in_order s room = simp append_assoc

-- Where one of 1 to 3 is found, it is the sheet's number.
module _ (s : List ℕ) (r : Refusal) (found : number_of r ≡ first_of (front_tests s)) where
  front_number : (room : ℕ) → refusal s room ≡ number_of r
  front_number room = in_order s room ∙ sym (first_refuses (front_tests s) _ (front_numbered s) r found)

  pub front_refused : (room : ℕ) → outcome s room ≡ refused (number_of r)
  unfolding outcome
  front_refused room =
      rw (front_number room) (Answers.says_refused (number_of r) (result_length (header_of s)) (not_none r))

pub front_left : (s out : List ℕ) → 1 ≤ first_of (front_tests s) → buffer_after s out ≡ out
unfolding buffer_after
front_left s out some =
    let stands = first_stands (front_tests s) _ (front_numbered s) (λ z. omega (arith, some, z)) in
    let n = stands ∙ sym (in_order s (length out)) in
    Answers.kept (refusal s (length out)) (over (result_of (month_of s)) out) out
    (λ z. omega (arith, some, n, z))

-- Where none is, the sheet's number is that of its month, and the month leaves what the sheet does.
module _ (s : List ℕ) (none : 0 ≡ first_of (front_tests s)) (layout : Layout)
    (same : layout ≡ layout_of s) where
  told : length_field s ≡ length s
  told =
      unfold front_tests applies in
      eqb-true _ _ (not_true _ (none_applies (front_tests s) (front_numbered s) (sym none) 2))

  month_is : (room : ℕ) → refusal s room ≡ month_number layout s room
  unfolding month_number
  month_is room =
      in_order s room ∙ rw (same, told) (sym (second_finds (front_tests s) _ (front_numbered s) none refl))

  pub month_settled : (room count : ℕ) → 0 ≡ month_number layout s room → count ≡ result_length layout.header
      → outcome s room ≡ written count
  unfolding outcome
  month_settled room count e long =
      rw (month_is room ∙ sym e, long, same) (Answers.says_written 0 (result_length (header_of s)) refl)

  pub month_left : (out : List ℕ) → month_after layout s out ≡ buffer_after s out
  unfolding month_after buffer_after lent_after
  month_left out = rw (sym (month_is (length out)), same) refl

pub month_refused : (s : List ℕ) (room : ℕ) (r : Refusal) → 0 ≡ first_of (front_tests s)
    → number_of r ≡ month_number (layout_of s) s room → outcome s room ≡ refused (number_of r)
unfolding outcome
month_refused s room r none e =
    rw (month_is s none (layout_of s) refl room ∙ sym e)
    (Answers.says_refused (number_of r) (result_length (header_of s)) (not_none r))

-- What an entry's proof is found by.
pub ruleset settling = (from_one, front_refused, front_left, month_refused, month_settled, month_left)
