-- The text of 2015: its result has the length it states, every figure fits and is read back, and higher peaks
-- never lower a figure. Assumes nothing.
use mathlib.Core.Path.{◌≡◌, sym, ap}
use mathlib.Core.List.{List}
use Prim.Native.Nat.{ℕ, ◌*◌, ◌≤◌, ◌<◌}
use native.Mathlib.Nat.{add-zero, le_of_eq, mul-le-mul_left}
use native.Mathlib.Omega.{arith}
use lib.Dec.{T}
use lib.ListN.{length, length-append}
use Rattle.rules.specs.declared.Header.{Header}
use Rattle.rules.specs.Month.{Month}
use Rattle.rules.specs.Limits.{MonthLimits}
use Rattle.rules.specs.Fields.{big_endian, laid, joined, over}
use Rattle.rules.specs.Sheet.{header_of, month_of}
use Rattle.rules.specs.Text2015.{
  excess_of,
  bands_2015,
  factor_for,
  volume_for,
  factor_2015,
  volume_2015,
  charge_2015,
}
use Rattle.rules.specs.Result2015.{
  figures_2015,
  fields_2015,
  length_2015,
  head_2015,
  record_2015,
  result_2015,
  record_2015_at,
  read_2015,
}
use Rattle.rules.specs.Result.{result_length}
use Rattle.rules.specs.Outcome.{Accepted}
use Rattle.rules.specs.Outcome2015.{tests_2015, refusal_2015, Accepted2015, Limits2015, buffer_after_2015}
use Rattle.laws.proofs.Units.{rounded_mono, money_mono}
use Rattle.laws.proofs.Fields.{Holds, holds_left, holds_right, Fit, read_laid, length-joined, held_record}
use Rattle.laws.proofs.Text2015.{
  factor_2015-le,
  volume_2015-le,
  charge_2015-le,
  length_2015-le,
  length-head_2015,
  length-record_2015,
}
use Rattle.laws.proofs.Refusals.{limits, limits_for, for_limits}
use Rattle.laws.proofs.Answers.{is_changed}
use Rattle.theorems.specs.Demand3.{WorseSheet}
use Rattle.theorems.specs.Request4.{rising, HigherPeak, HigherPeaks, NoLower2015}
use Rattle.theorems.proofs.Bands.{larger_excess_no_smaller_factor, parts_mono}
use Rattle.theorems.proofs.Demand3.{same_header, over_begins}

-- The table of the text rises.
pub bands_2015_rise : T (rising bands_2015)
unfolding bands_2015
bands_2015_rise = tt

-- So a higher peak over one contract volume never has a smaller factor, and never gives a lower volume.
pub factor_for_mono : (contract : ℕ) {x y : ℕ} → x ≤ y → factor_for contract x ≤ factor_for contract y
unfolding factor_for excess_of
factor_for_mono contract h =
    larger_excess_no_smaller_factor bands_2015 bands_2015_rise _ _ (parts_mono 2001 contract (omega arith))

pub volume_for_mono : (contract : ℕ) {x y : ℕ} → x ≤ y → volume_for contract x ≤ volume_for contract y
unfolding volume_for
volume_for_mono contract h = rounded_mono 10 (mul-le-mul_left contract (factor_for_mono contract h))

-- Of two consumers, by name.
module _ (m m' : Month) (c : ℕ) (w : HigherPeak (m.consumer c) (m'.consumer c)) where
  factor_up : factor_2015 m c ≤ factor_2015 m' c
  unfolding factor_2015
  factor_up = rw w.contract (factor_for_mono (m.consumer c).contract w.peak)

  volume_up : volume_2015 m c ≤ volume_2015 m' c
  unfolding volume_2015
  volume_up = rw w.contract (volume_for_mono (m.consumer c).contract w.peak)

  charge_up : charge_2015 m c ≤ charge_2015 m' c
  unfolding charge_2015
  charge_up = money_mono volume_up (le_of_eq (sym w.price))

module _ (m : Month) where
  length_records : length (joined (record_2015 m) m.header.consumers) ≡ 17 * m.header.consumers
  length_records = length-joined (record_2015 m) 17 (length-record_2015 m) m.header.consumers

  -- The result is as long as it says.
  pub result_has_length : length (result_2015 m) ≡ length_2015 m.header
  unfolding result_2015 length_2015
  result_has_length = simp (length-append, length-head_2015, length_records)

-- Every figure of an accepted month fits its field.
module _ (m : Month) (w : MonthLimits m) where
  pub consumer_fits : (c : ℕ) → c < m.header.consumers → Fit (fields_2015 (figures_2015 m c))
  consumer_fits c l = (
    omega (arith, factor_2015-le m w c),
    (omega (arith, volume_2015-le m w c l), (omega (arith, charge_2015-le m w c l), tt)),
  )

  head_fits : Fit (head_2015 m.header)
  head_fits = (omega (arith, length_2015-le m.header w.header), tt)

  -- A buffer that begins with the result of such a month.
  module _ (out : List ℕ) (h : Holds out 0 (result_2015 m)) where
    consumers : Holds out 4 (joined (record_2015 m) m.header.consumers)
    unfolding result_2015
    consumers = holds_right out 0 (laid (head_2015 m.header)) _ (omega (arith, length-head_2015 m.header)) h

    consumer : (c : ℕ) → c < m.header.consumers → Holds out (record_2015_at c) (record_2015 m c)
    consumer c l = unfold record_2015_at in held_record (record_2015 m) 17 (length-record_2015 m) out 4 m.header.consumers consumers c l

    -- What is read is what the definitions give.
    pub length_read : big_endian 4 out 0 ≡ length_2015 m.header
    unfolding result_2015
    length_read = (read_laid out 0 (head_2015 m.header) head_fits (holds_left out 0 _ _ h)).0

    pub consumer_read : (c : ℕ) → c < m.header.consumers → read_2015 out c ≡ figures_2015 m c
    unfolding record_2015 read_2015
    consumer_read c l =
        let r = read_laid out (record_2015_at c) (fields_2015 (figures_2015 m c)) (consumer_fits c l) (consumer c l) in
        rw (rw add-zero at r.0, r.1.0, r.1.1.0)

-- Over sheets and buffers.
module _ (s : List ℕ) (room : ℕ) where
  pub accepted_limits : Accepted2015 s room → Limits2015 s room
  unfolding refusal_2015 tests_2015
  accepted_limits a = limits_for (length_2015 (header_of s)) s room a

  pub limits_accepted : Limits2015 s room → Accepted2015 s room
  unfolding refusal_2015 tests_2015
  limits_accepted l = for_limits (length_2015 (header_of s)) s room l

  pub settled_accepted : Accepted s room → Accepted2015 s room
  settled_accepted a =
      let l = limits s room a in
      limits_accepted (record { form = l.form; enough_room = unfold length_2015 result_length in omega (arith, l.enough_room); month = l.month })

pub begins : (s out : List ℕ) → Accepted2015 s (length out)
    → Holds (buffer_after_2015 s out) 0 (result_2015 (month_of s))
unfolding buffer_after_2015
begins s out a = over_begins (result_2015 (month_of s)) out (is_changed (refusal_2015 s (length out)) (over (result_2015 (month_of s)) out) out a)

-- Higher peaks: no figure of the second result is lower.
pub no_lower : (s s' out out' : List ℕ) → Accepted2015 s (length out) → Accepted2015 s' (length out')
    → HigherPeaks s s'
    → NoLower2015 (header_of s) (buffer_after_2015 s out) (buffer_after_2015 s' out')
no_lower s s' out out' a a' w =
    let m = month_of s in
    let m' = month_of s' in
    let l = (accepted_limits s (length out) a).month in
    let l' = (accepted_limits s' (length out') a').month in
    let there : (c : ℕ) → c < m.header.consumers → c < m'.header.consumers =
    λ c b. rw (ap (λ (h : Header). h.consumers) (same_header s s' w.header)) b in
    let read = consumer_read m l (buffer_after_2015 s out) (begins s out a) in
    let read' = consumer_read m' l' (buffer_after_2015 s' out') (begins s' out' a') in
    record {
      factor = λ c b. rw (read c b, read' c (there c b)) (factor_up m m' c (w.consumer c b));
      volume = λ c b. rw (read c b, read' c (there c b)) (volume_up m m' c (w.consumer c b));
      charge = λ c b. rw (read c b, read' c (there c b)) (charge_up m m' c (w.consumer c b));
    }

-- The sheets of demand 3 are such a pair.
pub worse_higher : (s s' : List ℕ) → WorseSheet s s' → HigherPeaks s s'
worse_higher s s' w =
    record {
      header = w.header;
      consumer = λ c l. let k = w.figures.consumer c l in record { contract = k.contract; peak = k.peak; price = k.price };
    }
