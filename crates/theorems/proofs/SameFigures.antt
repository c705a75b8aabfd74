-- Sheets past number 6 that state the same figures get the same answers, whatever their versions. Assumes
-- nothing.
use mathlib.Core.Path.{◌≡◌, sym, ap, ◌∙◌}
use mathlib.Core.Bool.{Bool, false}
use mathlib.Core.List.{List, ◌++◌, append_assoc}
use Prim.Native.Nat.{ℕ, ◌<◌}
use native.Mathlib.Omega.{arith}
use borrow.Author.Tests.{le-ltb}
use lib.ListN.{length, take, drop}
use lib.Seq.{take_at}
use Rattle.rules.specs.declared.Header.{Header}
use Rattle.rules.specs.declared.Row.{Row}
use Rattle.rules.specs.declared.Consumer.{Consumer}
use Rattle.rules.specs.Range.{any}
use Rattle.rules.specs.Month.{Producer, Month, hours}
use Rattle.rules.specs.Fields.{over}
use Rattle.rules.specs.Sheet.{version, header_of, layout_of, month_of, states_days, day_at}
use Rattle.rules.specs.Result.{result_length, result_of}
use Rattle.rules.specs.Limits.{MonthLimits}
use Rattle.rules.specs.Refusals.{
  bad_share,
  high_hour,
  high_producer,
  high_row,
  high_consumer,
  bad_reference,
  too_dear,
  bad_factor,
  bad_days,
  Test,
  form_tests,
  room_tests,
  figure_tests,
  sheet_tests,
  tests_for,
  tests,
  first_of,
  refusal,
}
use Rattle.rules.specs.Outcome.{Accepted, outcome, buffer_after}
use Rattle.rules.specs.Text2015.{factor_2015, volume_2015, charge_2015}
use Rattle.rules.specs.Result2015.{length_2015, record_2015, result_2015}
use Rattle.rules.specs.Outcome2015.{tests_2015, refusal_2015, outcome_2015, buffer_after_2015}
use Rattle.rules.specs.Transfers.{transfer_tests, transfer_refusal, transfer_outcome}
use Rattle.rules.specs.Averaging.{record_tests, average_tests, average_refusal, average_outcome}
use Rattle.laws.proofs.Range.{any_same}
use Rattle.laws.proofs.Refusals.{first_append, first_next, form_numbered, sheet_numbered, limits}
use Rattle.laws.proofs.Answers.{same_after, is_changed}
use Rattle.laws.proofs.Answers as Answers
use Rattle.theorems.specs.Alike.{SameProducer, Alike}
use Rattle.theorems.specs.Request5.{FullRows, SameAnswers}
use Rattle.theorems.specs.Request7.{EqualResults}
use Rattle.theorems.proofs.Alike.{joined_same, alike_result}
use Rattle.theorems.proofs.Transfers.{list_same}
use Rattle.theorems.proofs.ReadBack.{result_has_length}

-- The same producer fails or passes 8 and 9.
same_share : (h : Header) {p p' : Producer} → SameProducer (hours h) p p' → bad_share h p' ≡ bad_share h p
unfolding bad_share
same_share h a = rw (a.no_upward_bid, a.no_downward_bid, a.no_plan, a.k3, a.k6, a.k7, a.k8, a.k9, a.k10)

same_high : (h : Header) {p p' : Producer} → SameProducer (hours h) p p'
    → high_producer h p' ≡ high_producer h p
unfolding high_producer high_hour
same_high h {p} {p'} a =
    rw (a.attested, a.deductible, a.own_needs, any_same (high_hour p') (high_hour p) (hours h) hour)
  where
    hour : (i : ℕ) → i < hours h → high_hour p' i ≡ high_hour p i
    hour i l = rw (a.working i l, a.possible i l, a.outside_use i l)

-- Alike months meet the same tests of their figures.
module _ (m m' : Month) (a : Alike m m') where
  some : (count : Header → ℕ) (f g : ℕ → Bool) → ((i : ℕ) → i < count m.header → f i ≡ g i)
      → any f (count m'.header) ≡ any g (count m.header)
  some count f g h = ap (λ (x : Header). any f (count x)) a.header ∙ any_same f g (count m.header) h

  some_producer_same : (wrong : Header → Producer → Bool)
      → ((p p' : Producer) → SameProducer (hours m.header) p p' → wrong m.header p' ≡ wrong m.header p)
      → any (λ p. wrong m'.header (m'.producer p)) m'.header.producers ≡ any (λ p. wrong m.header (m.producer p)) m.header.producers
  some_producer_same wrong same =
      some (λ h. h.producers) _ _ (λ p l. ap (λ (x : Header). wrong x (m'.producer p)) a.header ∙ same _ _ (a.producer p l))

  some_row_same : (wrong : Header → Row → Bool)
      → any (λ j. wrong m'.header (m'.row j)) m'.header.rows ≡ any (λ j. wrong m.header (m.row j)) m.header.rows
  some_row_same wrong = some (λ h. h.rows) _ _ (λ j l. rw (a.header, a.row j l))

  some_consumer_same : (wrong : Header → Consumer → Bool)
      → any (λ c. wrong m'.header (m'.consumer c)) m'.header.consumers ≡ any (λ c. wrong m.header (m.consumer c)) m.header.consumers
  some_consumer_same wrong = some (λ h. h.consumers) _ _ (λ c l. rw (a.header, a.consumer c l))

  pub figures_same : figure_tests m' ≡ figure_tests m
  unfolding figure_tests
  figures_same =
      rw (
        some_producer_same bad_share (λ p p' q. same_share m.header q),
        some_producer_same high_producer (λ p p' q. same_high m.header q),
        some_row_same (λ h. high_row),
        some_consumer_same (λ h. high_consumer),
        some_row_same bad_reference,
        some_row_same (λ h r. too_dear r.price),
        some_consumer_same (λ h c. too_dear c.price),
        some_consumer_same bad_factor,
        some_row_same bad_days,
      )

  result_2015_same : result_2015 m' ≡ result_2015 m
  unfolding result_2015 record_2015 factor_2015 volume_2015 charge_2015
  result_2015_same = rw (a.header, joined_same (record_2015 m') (record_2015 m) m.header.consumers each)
    where
      each : (c : ℕ) → c < m.header.consumers → record_2015 m' c ≡ record_2015 m c
      each c l = rw (a.consumer c l)

-- Two sheets past number 6.
module _ (s s' : List ℕ) (form : first_of (form_tests s) ≡ 0) (form' : first_of (form_tests s') ≡ 0) (a : Alike (month_of s) (month_of s')) where
  -- What is left of the numbers there.
  rest : (needed room : ℕ) (x : List ℕ) → first_of (form_tests x) ≡ 0
      → first_of (tests_for needed x room) ≡ first_of (room_tests needed room ++ figure_tests (month_of x))
  unfolding tests_for
  rest needed room x f =
      ap first_of (append_assoc (form_tests x) (room_tests needed room) (figure_tests (month_of x)))
      ∙ sym (first_next (form_tests x) (room_tests needed room ++ figure_tests (month_of x)) (form_numbered x) f)

  number_same : (needed room : ℕ) → first_of (tests_for needed s' room) ≡ first_of (tests_for needed s room)
  number_same needed room =
      rest needed room s' form'
      ∙ ap (λ (ts : List Test). first_of (room_tests needed room ++ ts)) (figures_same (month_of s) (month_of s') a)
      ∙ sym (rest needed room s form)

  refusal_same : (room : ℕ) → refusal s' room ≡ refusal s room
  unfolding refusal tests
  refusal_same room =
      ap (λ (h : Header). first_of (tests_for (result_length h) s' room)) a.header ∙ number_same (result_length (header_of s)) room

  refusal_2015_same : (room : ℕ) → refusal_2015 s' room ≡ refusal_2015 s room
  unfolding refusal_2015 tests_2015
  refusal_2015_same room =
      ap (λ (h : Header). first_of (tests_for (length_2015 h) s' room)) a.header ∙ number_same (length_2015 (header_of s)) room

  own_same : first_of (sheet_tests s') ≡ first_of (sheet_tests s)
  unfolding sheet_tests
  own_same =
      sym (first_next (form_tests s') (figure_tests (month_of s')) (form_numbered s') form')
      ∙ ap first_of (figures_same (month_of s) (month_of s') a)
      ∙ first_next (form_tests s) (figure_tests (month_of s)) (form_numbered s) form

  -- Entries that try others after the sheet's own.
  then_same : (ts' ts : List Test) → first_of ts' ≡ first_of ts
      → first_of (sheet_tests s' ++ ts') ≡ first_of (sheet_tests s ++ ts)
  then_same ts' ts e =
      first_append (sheet_tests s') ts' (sheet_numbered s') ∙ rw (
        own_same,
        e,
      )
      (sym (first_append (sheet_tests s) ts (sheet_numbered s)))

  pub transfer_refusal_same : (list : List ℕ) → transfer_refusal s' list ≡ transfer_refusal s list
  unfolding transfer_refusal transfer_tests
  transfer_refusal_same list =
      then_same _ _ (list_same s s' list a.header (λ c l. ap (λ (k : Consumer). k.contract) (a.consumer c l)))

  pub average_refusal_same : (r : List ℕ) → average_refusal s' r ≡ average_refusal s r
  unfolding average_refusal average_tests
  average_refusal_same r = then_same _ _ (ap (λ (h : Header). first_of (record_tests h r)) a.header)

  accepted : (room : ℕ) → refusal s room ≡ 0 → MonthLimits (month_of s)
  accepted room none = (limits s room none).month

  pub same_answers : SameAnswers s s'
  same_answers =
      record {
        answer = λ out. unfold outcome in rw (refusal_same (length out), a.header);
        result =
            λ out.
            unfold buffer_after in
            rw (refusal_same (length out))
            (same_after (refusal s (length out)) (over (result_of (month_of s)) out) out (over (result_of (month_of s')) out)
            (λ none. ap (λ (x : List ℕ). over x out) (alike_result (month_of s) (month_of s') a (accepted (length out) none))));
        answer_2015 = λ out. unfold outcome_2015 in rw (refusal_2015_same (length out), a.header);
        result_2015 =
            λ out.
            unfold buffer_after_2015 in
            rw (refusal_2015_same (length out), result_2015_same (month_of s) (month_of s') a);
        transfer = λ list. unfold transfer_outcome in rw (transfer_refusal_same list);
        average = λ r. unfold average_outcome in rw (average_refusal_same r);
      }

  -- With result buffers of one length, whatever stands in them.
  module _ (out out' : List ℕ) (long : length out' ≡ length out) where
    refusal_with : refusal s' (length out') ≡ refusal s (length out)
    refusal_with = ap (refusal s') long ∙ refusal_same (length out)

    -- An accepted sheet's result stands in front of its buffer.
    in_front : (x buffer : List ℕ) → Accepted x (length buffer)
        → take (result_length (header_of x)) (buffer_after x buffer) ≡ result_of (month_of x)
    unfolding buffer_after over
    in_front x buffer ok =
        ap (take (result_length (header_of x))) (is_changed (refusal x (length buffer)) (unfold over in over (result_of (month_of x)) buffer) buffer ok)
        ∙ take_at (result_of (month_of x)) (drop (length (result_of (month_of x))) buffer) (result_length (header_of x)) (result_has_length (month_of x))

    pub equal_results : EqualResults s s' out out'
    equal_results =
        record {
          answer = unfold outcome in rw (refusal_with, a.header);
          result =
              λ ok.
              ap (λ (h : Header). take (result_length h) (buffer_after s' out')) (sym a.header)
              ∙ in_front s' out' (refusal_with ∙ ok)
              ∙ alike_result (month_of s) (month_of s') a (accepted (length out) ok)
              ∙ sym (in_front s out ok);
          kept =
              λ no.
              unfold buffer_after in
              (Answers.kept (refusal s (length out)) (over (result_of (month_of s)) out) out no, Answers.kept (refusal s' (length out')) (over (result_of (month_of s')) out') out' (λ none. no (sym refusal_with ∙ none)));
        }

-- The rows of a version 1 sheet cover the month, so it states the figures of the version 2 sheet.
module _ (s s' : List ℕ) (full : FullRows s s') where
  no_days : states_days (layout_of s) ≡ false
  unfolding states_days
  no_days = le-ltb 1 (version s) (omega (arith, full.version_1))

  row_alike : (j : ℕ) → j < (header_of s).rows → (month_of s').row j ≡ (month_of s).row j
  unfolding day_at
  row_alike j l =
      let r = full.row j l in rw (no_days, r.producer, r.consumer, r.volume, r.price, r.first, r.last)

  pub full_alike : Alike (month_of s) (month_of s')
  full_alike =
      record { header = full.header; producer = full.producer; row = row_alike; consumer = full.consumer }
