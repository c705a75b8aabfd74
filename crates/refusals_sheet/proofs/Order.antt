-- Lists of tests that are tried one after the other: the first number of all comes from the first list that
-- has one.
use Rattle.std.proofs.Common.{◌≡◌, ℕ, List, ◌++◌, length, sym, ◌∙◌, append_assoc}
use Rattle.rules.specs.declared.Layout.{Layout}
use Rattle.rules.specs.declared.Refusal.{Refusal}
use Rattle.rules.specs.Sheet.{layout_of, month_under, month_of}
use Rattle.rules.specs.Result.{result_length}
use Rattle.rules.specs.Refusals.{header_tests, form_tests, room_tests, figure_tests, sheet_tests, tests_for}
use Rattle.rules.specs.Refusals.{Test, first_of}
use Rattle.rules.specs.Said.{number_of}
use Rattle.laws.proofs.Refusals.{header_numbered, form_numbered, room_numbered}
use Rattle.refusals_form.proofs.Refused.{first_refuses, second_finds}
use Rattle.refusals_sheet.specs.Tests.{record_tests}
use Rattle.refusals_sheet.specs.Numbers.{record_number}

-- Of a sheet without a result: 1 to 6, then its figures.
module _ (s : List ℕ) where
  pub sheet_form : (refusal : Refusal) → number_of refusal ≡ first_of (form_tests s)
      → first_of (sheet_tests s) ≡ number_of refusal
  unfolding sheet_tests
  sheet_form refusal e = sym (first_refuses (form_tests s) _ (form_numbered s) refusal e)

  pub sheet_figures : (bytes : List ℕ) (layout : Layout) (number : ℕ) → 0 ≡ first_of (form_tests s)
      → number ≡ first_of (figure_tests (month_under layout bytes)) → bytes ≡ s → layout ≡ layout_of s
      → first_of (sheet_tests s) ≡ number
  unfolding sheet_tests
  sheet_figures bytes layout number none e same told =
      sym (second_finds (form_tests s) _ (form_numbered s) none (rw (same, told) at e))

-- With a result: 1 to 6, then 7, then its figures.
module _ (needed : ℕ) (s : List ℕ) (room : ℕ) where
  in_order : first_of (tests_for needed s room)
      ≡ first_of (form_tests s ++ (room_tests needed room ++ figure_tests (month_of s)))
  unfolding tests_for
  in_order = simp append_assoc

  pub result_form : (refusal : Refusal) → number_of refusal ≡ first_of (form_tests s)
      → first_of (tests_for needed s room) ≡ number_of refusal
  result_form refusal e = in_order ∙ sym (first_refuses (form_tests s) _ (form_numbered s) refusal e)

  module _ (none : 0 ≡ first_of (form_tests s)) where
    pub result_room : (refusal : Refusal) → number_of refusal ≡ first_of (room_tests needed room)
        → first_of (tests_for needed s room) ≡ number_of refusal
    result_room refusal e =
        in_order
        ∙ sym (second_finds (form_tests s) _ (form_numbered s) none
        (first_refuses (room_tests needed room) _ (room_numbered needed room) refusal e))

    pub result_figures : (bytes : List ℕ) (layout : Layout) (number : ℕ)
        → 0 ≡ first_of (room_tests needed room)
        → number ≡ first_of (figure_tests (month_under layout bytes)) → bytes ≡ s → layout ≡ layout_of s
        → first_of (tests_for needed s room) ≡ number
    result_figures bytes layout number enough e same told =
        in_order
        ∙ sym (second_finds (form_tests s) _ (form_numbered s) none
        (second_finds (room_tests needed room) _ (room_numbered needed room) enough (rw (same, told) at e)))

-- Of a month under a layout: 4 to 6, then 7, then its records.
module _ (layout : Layout) (s : List ℕ) (room : ℕ) where
  abbrev header : List Test
  header = header_tests layout (length s)

  abbrev enough : List Test
  enough = room_tests (result_length layout.header) room

  pub record_header : (refusal : Refusal) → number_of refusal ≡ first_of header
      → record_number layout s room ≡ number_of refusal
  unfolding record_number
  record_header refusal e = sym (first_refuses header _ (header_numbered layout (length s)) refusal e)

  module _ (none : 0 ≡ first_of header) where
    pub record_room : (refusal : Refusal) → number_of refusal ≡ first_of enough
        → record_number layout s room ≡ number_of refusal
    unfolding record_number
    record_room refusal e =
        sym (second_finds header _ (header_numbered layout (length s)) none
        (first_refuses enough _ (room_numbered (result_length layout.header) room) refusal e))

    pub record_figures : (number : ℕ) → 0 ≡ first_of enough
        → number ≡ first_of (record_tests (month_under layout s))
        → record_number layout s room ≡ number
    unfolding record_number
    record_figures number none_short e =
        sym (second_finds header _ (header_numbered layout (length s)) none
        (second_finds enough _ (room_numbered (result_length layout.header) room) none_short e))

-- What the three functions' proofs are found by.
pub ruleset for_sheet = (sheet_form, sheet_figures)

pub ruleset for_result = (result_form, result_room, result_figures)

pub ruleset for_records = (record_header, record_room, record_figures)
