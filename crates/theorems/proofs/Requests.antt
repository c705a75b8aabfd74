-- The theorems that the requests state, for the auditor: each by name, with its statement. The proofs are in
-- the other files. Assumes nothing.
use mathlib.Core.Path.{◌≡◌, ap}
use mathlib.Core.Bool.{false}
use mathlib.Core.Logic.{◌⊎◌, inl, inr}
use mathlib.Core.List.{List, ◌++◌}
use Prim.Native.Nat.{ℕ, ◌-◌, ◌≤◌, ◌<◌}
use native.Mathlib.Omega.{arith}
use lib.Dec.{T, leb}
use lib.ListN.{length, drop}
use Rattle.rules.specs.declared.Band.{Band}
use Rattle.rules.specs.declared.Consumer.{Consumer}
use Rattle.rules.specs.declared.Header.{Header}
use Rattle.rules.specs.declared.Layout.{Layout}
use Rattle.rules.specs.Bands.{bands, factor_of}
use Rattle.rules.specs.Month.{Producer}
use Rattle.rules.specs.Coefficients.{k1}
use Rattle.rules.specs.Consumers.{volume_of}
use Rattle.rules.specs.ControlHours.{weekday_on, control_weekday, control_day}
use Rattle.rules.specs.ControlTable.{control_weekdays, line_of, says, table_day}
use Rattle.rules.specs.Fields.{big_endian, over}
use Rattle.rules.specs.Sheet.{version, header_of, month_of, in_version_2, rearranged}
use Rattle.rules.specs.Result.{result_of}
use Rattle.rules.specs.Refusals.{front_tests, header_tests, form_tests, figure_tests, sheet_tests, first_of}
use Rattle.rules.specs.Outcome.{refused, written, Accepted, buffer_after, hours_stretch}
use Rattle.rules.specs.Transfers.{
  contracts,
  list_tests,
  turn_tests,
  transfer_tests,
  transfer_refusal,
  transfer_outcome,
  volumes_after,
  transferred,
  with_volumes,
}
use Rattle.rules.specs.ComplexRecord.{complex}
use Rattle.rules.specs.Averaging.{
  complex_peak,
  record_tests,
  average_tests,
  average_refusal,
  average_outcome,
  averaged,
  with_peak_of,
}
use Rattle.rules.specs.Text2015.{bands_2015, volume_for}
use Rattle.rules.specs.Result2015.{figures_2015, fields_2015, length_2015, result_2015, read_2015}
use Rattle.rules.specs.Outcome2015.{
  tests_2015,
  refusal_2015,
  Accepted2015,
  Limits2015,
  outcome_2015,
  buffer_after_2015,
}
use Rattle.laws.proofs.Arrays.{length-listed}
use Rattle.laws.proofs.Fields.{Fit}
use Rattle.laws.proofs.ControlTable.{line_length, entry_right, no_weekday, no_day, table_day_same}
use Rattle.laws.proofs.Refusals.{form_limits, form_clear, limits}
use Rattle.laws.proofs.Answers as Answers
use Rattle.theorems.specs.Demand1.{First}
use Rattle.theorems.specs.Demand3.{MoreRowsKeepAttested, WorseSheet, NoBetter}
use Rattle.theorems.specs.Request1.{contract_sum, OnlyContracts}
use Rattle.theorems.proofs.Demand1 as Demand1
use Rattle.theorems.specs.Request3.{OnlyPeak, HigherDrawn, OnlyLine, NoLower}
use Rattle.theorems.specs.Request4.{rising, HigherPeaks, NoLower2015}
use Rattle.theorems.specs.Alike.{Alike}
use Rattle.theorems.specs.Request5.{FullRows, SameAnswers}
use Rattle.theorems.specs.Request6.{k1_by_tenths, WholeTenths}
use Rattle.theorems.specs.Request7.{EqualResults}
use Rattle.theorems.proofs.Transfers as Transfers
use Rattle.theorems.proofs.Averaging as Averaging
use Rattle.theorems.proofs.Bands as Bands
use Rattle.theorems.proofs.Consumers as Consumers
use Rattle.theorems.proofs.Text2015 as Text2015
use Rattle.theorems.proofs.SameFigures as SameFigures
use Rattle.theorems.proofs.Version2 as Version2
use Rattle.theorems.proofs.Version3 as Version3
use Rattle.theorems.proofs.RearrangedAfter as RearrangedAfter
use Rattle.theorems.proofs.WholeTenths as WholeTenths

-- Request 1: transfers of contract volume
-- -------------------------------------------------------------------------------------------

module _ (s list : List ℕ) where
  -- A refusal's number is that of the first test that applies, of the sheet and then of the list; it leaves
  -- the sheet as it was.
  pub transfer_refused_first : (n : ℕ) → transfer_refusal s list ≡ n → (n ≡ 0 → ⊥)
      → First (transfer_tests s list) n
  unfolding transfer_refusal
  transfer_refused_first n e p =
      Demand1.first (transfer_tests s list) (unfold transfer_tests sheet_tests form_tests front_tests header_tests figure_tests list_tests turn_tests in tt) n e p

  pub transfer_refused_outcome : (transfer_refusal s list ≡ 0 → ⊥)
      → transfer_outcome s list ≡ refused (transfer_refusal s list)
  unfolding transfer_outcome
  transfer_refused_outcome n = Answers.says_refused (transfer_refusal s list) 0 n

  pub transfer_refused_keeps : (transfer_refusal s list ≡ 0 → ⊥) → transferred s list ≡ s
  transfer_refused_keeps = Transfers.refused_keeps s list

  -- The sum of contract volumes is the same before and after, for every sheet and every list.
  pub transfer_keeps_sum : contract_sum (transferred s list) ≡ contract_sum s
  transfer_keeps_sum = Transfers.keeps_sum s list

  -- Every byte outside the contract volumes is kept, and an accepted sheet stays accepted with the same room,
  -- for every list.
  pub transfer_only_contracts : OnlyContracts s (transferred s list)
  transfer_only_contracts = Transfers.only_contracts s list

  -- The sheet afterwards states the volumes of the definition.
  pub transfer_volumes : transfer_refusal s list ≡ 0 → (c : ℕ) → c < (header_of s).consumers
      → contracts (month_of (transferred s list)) c ≡ volumes_after (month_of s) list c
  transfer_volumes none c l = rw (Transfers.is_applied s list none) (Transfers.volumes_read s list none c l)

  -- And its settlement is that of the month with those volumes, byte for byte.
  pub transfer_settled : (out : List ℕ) → Accepted s (length out) → transfer_refusal s list ≡ 0
      → buffer_after (transferred s list) out ≡ over (result_of (with_volumes (month_of s) (volumes_after (month_of s) list))) out
  transfer_settled out a none = Transfers.settled s list none out a

-- Two accepted sheets in the relation of demand 3 get the same answer from one list,
pub transfer_same_answer : (s s' list : List ℕ) (room room' : ℕ) → Accepted s room → Accepted s' room'
    → WorseSheet s s'
    → transfer_outcome s' list ≡ transfer_outcome s list
transfer_same_answer s s' list room room' a a' w = Transfers.same_answer s s' list w room room' a a'

-- and demand 3 holds of the results of the two sheets afterwards, where a producer with more than one row
-- keeps its attested capacity.
pub transfer_no_better : (s s' list out out' : List ℕ) → Accepted s (length out) → Accepted s' (length out')
    → WorseSheet s s'
    → MoreRowsKeepAttested (month_of s) (month_of s')
    → NoBetter (header_of s) (buffer_after (transferred s list) out) (buffer_after (transferred s' list) out')
transfer_no_better = Transfers.no_better

-- Request 2: control days from a table
-- ----------------------------------------------------------------------------------------------

-- The table has a line for each first weekday and 31 entries in each, 217 in all. The constant that the code
-- reads is this table: that is the contract of control_weekdays in the crate calendar, proved by one test
-- that is computed over all entries at once.
pub table_size : (length control_weekdays ≡ 7) × ((first : ℕ) → length (line_of first) ≡ 31)
unfolding control_weekdays
table_size = (length-listed _ 7, line_length)

-- An entry says yes exactly when its day falls on Monday to Friday: all 217, first weekdays being 1 to 7 and
-- days 0 to 30.
pub table_right : (first day : ℕ) → 1 ≤ first → first ≤ 7 → day < 31
    → says first day ≡ leb (weekday_on first day) 5
unfolding control_weekday
table_right first day from to within = entry_right first day from to within

-- Where the table has no entry it says no.
pub table_ends : (first day : ℕ) → (first ≡ 0) ⊎ (7 < first) ⊎ (31 ≤ day) → says first day ≡ false
table_ends first day (inl none) = no_weekday first day (inl none)
table_ends first day (inr (inl past)) = no_weekday first day (inr past)
table_ends first day (inr (inr past)) = no_day first day past

-- So every day of an accepted sheet is a control day by the table exactly when it is one by the rule.
pub table_control_days : (s : List ℕ) (room : ℕ) → Accepted s room → (day : ℕ) → day < (header_of s).days
    → table_day (header_of s) day ≡ control_day (header_of s) day
table_control_days s room a day l =
    let h = (limits s room a).form.header in
    table_day_same (header_of s) day h.weekday_from h.weekday_to (omega (arith, h.days_to))

-- Request 3: industrial complexes by averaging
-- --------------------------------------------------------------------------------------

module _ (s r : List ℕ) where
  -- A refusal's number is that of the first test that applies, of the sheet and then of the record; it leaves
  -- the sheet as it was.
  pub average_refused_first : (n : ℕ) → average_refusal s r ≡ n → (n ≡ 0 → ⊥) → First (average_tests s r) n
  unfolding average_refusal
  average_refused_first n e p =
      Demand1.first (average_tests s r) (unfold average_tests sheet_tests form_tests front_tests header_tests figure_tests record_tests in tt) n e p

  pub average_refused_outcome : (average_refusal s r ≡ 0 → ⊥)
      → average_outcome s r ≡ refused (average_refusal s r)
  unfolding average_outcome
  average_refused_outcome n = Answers.says_refused (average_refusal s r) 0 n

  pub average_refused_keeps : (average_refusal s r ≡ 0 → ⊥) → averaged s r ≡ s
  average_refused_keeps = Averaging.refused_keeps s r

  -- Only the four bytes of that consumer's peak can change, and an accepted sheet stays accepted with the
  -- same room, for every sheet and every record.
  pub average_one_field : OnlyPeak (complex r) s (averaged s r)
  average_one_field = Averaging.one_field s r

  -- The sheet afterwards states the peak of the definition, which is at most 10,000.0 MW.
  pub average_peak : average_refusal s r ≡ 0
      → ((month_of (averaged s r)).consumer (complex r)).peak ≡ complex_peak (header_of s) r
  average_peak = Averaging.peak_stated s r

  pub average_peak_most : average_refusal s r ≡ 0 → complex_peak (header_of s) r ≤ 100000
  average_peak_most = Averaging.peak_most s r

  -- Its settlement is that of the month with that peak, byte for byte.
  pub average_settled : (out : List ℕ) → Accepted s (length out) → average_refusal s r ≡ 0
      → buffer_after (averaged s r) out ≡ over (result_of (with_peak_of (month_of s) (complex r) (complex_peak (header_of s) r))) out
  average_settled out a none = Averaging.settled s r none out a

  -- And it has the lines of the settlement before, for every row and every other consumer, whatever the
  -- record.
  pub average_only_line : (out out' : List ℕ) → Accepted s (length out) → Accepted s (length out')
      → OnlyLine (header_of s) (complex r) (buffer_after s out) (buffer_after (averaged s r) out')
  average_only_line = Averaging.line_kept s r

-- Of two records that are taken for one sheet, alike but for higher powers drawn in the second, the
-- settlement after the second gives that consumer no lower volume and no lower charge; every other consumer's
-- line and every row's line is the same after both.
pub average_no_lower : (s r r' out out' : List ℕ) → Accepted s (length out) → Accepted s (length out')
    → average_refusal s r ≡ 0 → average_refusal s r' ≡ 0 → HigherDrawn (header_of s) r r'
    → NoLower (header_of s) (complex r) (buffer_after (averaged s r) out) (buffer_after (averaged s r') out')
    × OnlyLine (header_of s) (complex r) (buffer_after (averaged s r) out) (buffer_after (averaged s r') out')
average_no_lower s r r' out out' a a' none none' higher =
    Averaging.no_lower s r r' none none' higher out out' a a'

-- Request 4: consumers under the text of 2015
-- ---------------------------------------------------------------------------------------

-- In every rising band table a larger excess never meets a smaller factor; and both texts' tables rise.
pub larger_excess_no_smaller_factor : (table : List Band) → T (rising table) → (p q : ℕ) → p ≤ q
    → factor_of table p ≤ factor_of table q
larger_excess_no_smaller_factor = Bands.larger_excess_no_smaller_factor

pub tables_rise : T (rising bands) × T (rising bands_2015)
tables_rise = (Bands.bands_rise, Text2015.bands_2015_rise)

-- From it: a higher peak never gives a lower volume, under the text of 2021, whatever the consumer's credit,
-- and under the text of 2015.
pub higher_peak_no_lower_volume : (days credit : ℕ) (c : Consumer) (x y : ℕ) → x ≤ y
    → (volume_of days c (x - credit) ≤ volume_of days c (y - credit)) × (volume_for c.contract x ≤ volume_for c.contract y)
higher_peak_no_lower_volume days credit c x y h =
    (Consumers.exam days c (omega arith), Text2015.volume_for_mono c.contract h)

-- An accepted sheet keeps to every limit, each by name, and a sheet that keeps to every limit is accepted; a
-- sheet that the settlement accepts is accepted here with the same room.
module _ (s : List ℕ) (room : ℕ) where
  pub accepted_limits_2015 : Accepted2015 s room → Limits2015 s room
  accepted_limits_2015 = Text2015.accepted_limits s room

  pub limits_accepted_2015 : Limits2015 s room → Accepted2015 s room
  limits_accepted_2015 = Text2015.limits_accepted s room

  pub settled_accepted_2015 : Accepted s room → Accepted2015 s room
  settled_accepted_2015 = Text2015.settled_accepted s room

  -- A refusal's number is that of the first test that applies.
  pub refused_first_2015 : (n : ℕ) → refusal_2015 s room ≡ n → (n ≡ 0 → ⊥) → First (tests_2015 s room) n
  unfolding refusal_2015 tests_2015
  refused_first_2015 n e p = Demand1.first_for (length_2015 (header_of s)) s room n e p

module _ (s out : List ℕ) where
  -- It is answered with its number, and the buffer keeps every byte.
  pub refused_outcome_2015 : (refusal_2015 s (length out) ≡ 0 → ⊥)
      → outcome_2015 s (length out) ≡ refused (refusal_2015 s (length out))
  unfolding outcome_2015
  refused_outcome_2015 n = Answers.says_refused (refusal_2015 s (length out)) (length_2015 (header_of s)) n

  pub refused_keeps_2015 : (refusal_2015 s (length out) ≡ 0 → ⊥) → buffer_after_2015 s out ≡ out
  unfolding buffer_after_2015
  refused_keeps_2015 n =
      Answers.kept (refusal_2015 s (length out)) (over (result_2015 (month_of s)) out) out n

  -- The result has the stated length.
  pub result_length_2015 : length (result_2015 (month_of s)) ≡ length_2015 (header_of s)
  result_length_2015 = Text2015.result_has_length (month_of s)

  -- An accepted sheet is answered with the count of bytes of its result, which stand at the buffer's
  -- beginning; those past them are kept.
  module _ (a : Accepted2015 s (length out)) where
    pub accepted_outcome_2015 : outcome_2015 s (length out) ≡ written (length (result_2015 (month_of s)))
    unfolding outcome_2015
    accepted_outcome_2015 = rw result_length_2015 (Answers.says_written (refusal_2015 s (length out)) (length_2015 (header_of s)) a)

    pub accepted_result_2015 : buffer_after_2015 s out
        ≡ result_2015 (month_of s) ++ drop (length (result_2015 (month_of s))) out
    unfolding buffer_after_2015 over
    accepted_result_2015 =
        Answers.is_changed (refusal_2015 s (length out)) (over (result_2015 (month_of s)) out) out a

    -- Every figure fits its field, and the bytes give it back, the length too.
    pub fits_2015 : (c : ℕ) → c < (header_of s).consumers → Fit (fields_2015 (figures_2015 (month_of s) c))
    fits_2015 = Text2015.consumer_fits (month_of s) (Text2015.accepted_limits s (length out) a).month

    pub read_back_2015 : (c : ℕ) → c < (header_of s).consumers
        → read_2015 (buffer_after_2015 s out) c ≡ figures_2015 (month_of s) c
    read_back_2015 = Text2015.consumer_read (month_of s) (Text2015.accepted_limits s (length out) a).month (buffer_after_2015 s out) (Text2015.begins s out a)

    pub length_read_2015 : big_endian 4 (buffer_after_2015 s out) 0 ≡ length_2015 (header_of s)
    length_read_2015 = Text2015.length_read (month_of s) (Text2015.accepted_limits s (length out) a).month (buffer_after_2015 s out) (Text2015.begins s out a)

-- Of two accepted sheets that are alike but for higher peaks in the second, the second result has no lower
-- factor, volume or charge.
pub no_lower_2015 : (s s' out out' : List ℕ) → Accepted2015 s (length out) → Accepted2015 s' (length out')
    → HigherPeaks s s'
    → NoLower2015 (header_of s) (buffer_after_2015 s out) (buffer_after_2015 s' out')
no_lower_2015 = Text2015.no_lower

-- Two sheets in the relation of demand 3 are such a pair: under this text too a worse month never charges a
-- consumer less.
pub worse_higher_2015 : (s s' : List ℕ) → WorseSheet s s' → HigherPeaks s s'
worse_higher_2015 = Text2015.worse_higher

-- Request 5: contracts that begin inside a month, sheet version 2
-- --------------------------------------------------------------------

-- Two sheets that get past number 6 and state the same figures, the days of their rows among them, get the
-- same answers and leave the same result bytes, whatever their versions.
pub same_figures_same_answers : (s s' : List ℕ) → first_of (form_tests s) ≡ 0 → first_of (form_tests s') ≡ 0
    → Alike (month_of s) (month_of s')
    → SameAnswers s s'
same_figures_same_answers = SameFigures.same_answers

-- So do a version 1 sheet and the version 2 sheet with the same figures and rows that cover the month.
pub version_2_full : (s s' : List ℕ) → first_of (form_tests s) ≡ 0 → first_of (form_tests s') ≡ 0
    → FullRows s s' → SameAnswers s s'
version_2_full s s' form form' full =
    SameFigures.same_answers s s' form form' (SameFigures.full_alike s s' full)

-- Every version 1 sheet that gets past number 6 has such a version 2 sheet: the one that in_version_2 writes
-- gets past number 6 too.
pub version_2_there : (s : List ℕ) → first_of (form_tests s) ≡ 0 → version s ≡ 1
    → (first_of (form_tests (in_version_2 s)) ≡ 0) × FullRows s (in_version_2 s) × SameAnswers s (in_version_2 s)
version_2_there s form first =
    let past = form_clear (in_version_2 s) (Version2.form_after s (form_limits s form) first) in
    let full = Version2.full_after s (form_limits s form) first in
    (past, full, version_2_full s (in_version_2 s) form past full)

-- Request 6: outside use to a hundredth
-- ------------------------------------------------------------------------------------------------

-- A producer whose control average, rounded to a hundredth, is a whole number of tenths has the k1 that it
-- had when the average was rounded to a tenth.
pub whole_tenths_same : (h : Header) (p : Producer) (tenths : ℕ) → WholeTenths h p tenths → (T : ℕ)
    → k1 h p T ≡ k1_by_tenths h p T
whole_tenths_same = WholeTenths.same

-- Request 7: hours by column, sheet version 3
-- ------------------------------------------------------------------------------------------

-- The rearrangement of a version 2 sheet that gets past number 6.
module _ (s : List ℕ) (form : first_of (form_tests s) ≡ 0) (second : version s ≡ 2) where
  -- It is of version 3 and as long as the sheet, and gets past number 6.
  pub rearranged_form : (first_of (form_tests (rearranged s)) ≡ 0) × (version (rearranged s) ≡ 3)
      × (length (rearranged s) ≡ length s)
  rearranged_form =
      let limits = form_limits s form in (
        form_clear (rearranged s) (Version3.form_after s limits second),
        ap (λ (l : Layout). l.version) (Version3.layout_after s limits second),
        Version3.as_long s limits second,
      )

  -- It states the same month.
  pub rearranged_month : Alike (month_of s) (month_of (rearranged s))
  rearranged_month = Version3.alike_after s (form_limits s form) second

  -- With result buffers of one length, the two give equal results or the same refusal.
  pub rearranged_same : (out out' : List ℕ) → length out' ≡ length out
      → EqualResults s (rearranged s) out out'
  rearranged_same = SameFigures.equal_results s (rearranged s) form rearranged_form.0 rearranged_month

  -- All entries answer them alike.
  pub rearranged_answers : SameAnswers s (rearranged s)
  rearranged_answers = SameFigures.same_answers s (rearranged s) form rearranged_form.0 rearranged_month

  -- The hours of each producer are handed back as the same stretch.
  pub rearranged_stretch : (p : ℕ) → hours_stretch (rearranged s) p ≡ hours_stretch s p
  rearranged_stretch = Version3.stretch_after s (form_limits s form) second

  -- A list of transfers, or a complex's record, leaves of it the rearrangement of what it leaves of the
  -- sheet.
  pub rearranged_transferred : (list : List ℕ)
      → transferred (rearranged s) list ≡ rearranged (transferred s list)
  rearranged_transferred = RearrangedAfter.transferred_alike s (form_limits s form) second

  pub rearranged_averaged : (r : List ℕ) → averaged (rearranged s) r ≡ rearranged (averaged s r)
  rearranged_averaged = RearrangedAfter.averaged_alike s (form_limits s form) second
