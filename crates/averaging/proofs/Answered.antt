-- Which list of tests the first number comes from, and what is answered and left. Assumes nothing.
use Rattle.std.proofs.Common.{◌≡◌, ℕ, ◌≤◌, ◌<◌, List, length, refl, sym, ◌∙◌, arith}
use native.Mathlib.Nat.{le_of_eq}
use Rattle.rules.specs.declared.Refusal.{Refusal}
use Rattle.rules.specs.Sheet.{header_of, layout_of, sheet_length, with_peak}
use Rattle.rules.specs.Refusals.{sheet_tests, first_of}
use Rattle.rules.specs.Outcome.{refused, written}
use Rattle.rules.specs.Said.{number_of}
use Rattle.rules.specs.ComplexRecord.{record_width, complex}
use Rattle.rules.specs.Averaging.{complex_peak, record_tests, average_tests, average_refusal}
use Rattle.rules.specs.Averaging.{average_outcome, peak_written, averaged}
use Rattle.laws.proofs.Refusals.{sheet_limits}
use Rattle.laws.proofs.Answers as Answers
use Rattle.laws.proofs.Averaging.{record_limits}
use Rattle.refusals_form.proofs.Refused.{from_one}

module _ (s r : List ℕ) where
  -- A number that is answered while the sheet stays as it was.
  abbrev Refuses : ℕ → Type 0
  Refuses n = (refused n ≡ average_outcome s r) × (s ≡ averaged s r)

  -- The sheet's own number.
  own : {n : ℕ} → n ≡ first_of (sheet_tests s) → 1 ≤ n → Refuses n
  unfolding average_outcome averaged average_refusal average_tests
  own e p =
      Answers.own_refused s (record_tests (header_of s) r) (peak_written s r) e (λ z. omega (arith, p, z))

  pub own_answered : (refusal : Refusal) → number_of refusal ≡ first_of (sheet_tests s)
      → average_outcome s r ≡ refused (number_of refusal)
  own_answered refusal e = sym (own e (from_one refusal)).0

  pub own_keeps : 1 ≤ first_of (sheet_tests s) → averaged s r ≡ s
  own_keeps p = sym (own refl p).1

  -- Where it has none.
  module _ (none : 0 ≡ first_of (sheet_tests s)) where
    -- 16 or 17.
    rest : {n : ℕ} → n ≡ first_of (record_tests (header_of s) r) → 1 ≤ n → Refuses n
    unfolding average_outcome averaged average_refusal average_tests
    rest e p =
        Answers.rest_refused s (record_tests (header_of s) r) (peak_written s r) (sym none) e
        (λ z. omega (arith, p, z))

    pub record_answered : (refusal : Refusal) → number_of refusal ≡ first_of (record_tests (header_of s) r)
        → average_outcome s r ≡ refused (number_of refusal)
    record_answered refusal e = sym (rest e (from_one refusal)).0

    pub record_keeps : 1 ≤ first_of (record_tests (header_of s) r) → averaged s r ≡ s
    record_keeps p = sym (rest refl p).1

    pub whole_month : ((header_of s).days ≤ 31) × (1 ≤ (header_of s).weekday) × ((header_of s).weekday ≤ 7)
    whole_month =
        let w = (sheet_limits s (sym none)).0.header in
        (w.days_to, w.weekday_from, w.weekday_to)

    pub whole_sheet : sheet_length (layout_of s) ≤ length s
    whole_sheet =
        let w = (sheet_limits s (sym none)).0 in
        le_of_eq (sym w.length_right ∙ w.length_told)

    -- Where neither applies.
    module _ (good : 0 ≡ first_of (record_tests (header_of s) r)) where
      pub whole_record : record_width (header_of s) ≤ length r
      whole_record = le_of_eq (sym (record_limits _ _ (sym good)).0.as_long)

      pub named : complex r < (header_of s).consumers
      named = (record_limits _ _ (sym good)).0.complex

      done : (written 0 ≡ average_outcome s r) × (peak_written s r ≡ averaged s r)
      unfolding average_outcome averaged average_refusal average_tests
      done = Answers.none_refused s (record_tests (header_of s) r) (peak_written s r) (sym none) good refl

      pub written_answered : average_outcome s r ≡ written 0
      written_answered = sym done.0

      pub written_there : averaged s r ≡ with_peak (layout_of s) (complex r) (complex_peak (header_of s) r) s
      unfolding peak_written
      written_there = sym done.1

-- What the entry's proof goes by.
pub ruleset refusing = (from_one, own_answered, own_keeps, record_answered, record_keeps)

pub ruleset taken = (whole_record, named, written_answered, written_there)

pub ruleset averaging = (refusing, whole_month, whole_sheet, taken)
