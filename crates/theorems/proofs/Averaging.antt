-- A sheet with another peak: what is kept, and that its month is the old one with that peak; and what higher
-- powers drawn do. Assumes nothing.
use mathlib.Core.Path.{◌≡◌, refl, sym, ap, ◌∙◌}
use mathlib.Core.Bool.{Bool, true, false, cond}
use mathlib.Core.Logic.{◌⊎◌, inl, inr}
use mathlib.Core.List.{List}
use Prim.Native.Nat.{ℕ, ◌+◌, ◌-◌, ◌*◌, ◌^◌, ◌≤◌, ◌<◌}
use native.Mathlib.Nat.{le_refl, add-zero}
use native.Mathlib.Omega.{arith}
use borrow.Author.Tests.{eqb-true, eqb-false, eq-eqb, ne_eqb}
use lib.Dec.{eqb}
use lib.ListN.{length, get_or}
use Rattle.rules.specs.declared.Header.{Header}
use Rattle.rules.specs.declared.Consumer.{Consumer}
use Rattle.rules.specs.Range.{when}
use Rattle.rules.specs.Month.{Month, hours, with_consumers}
use Rattle.rules.specs.Units.{tenth, tenths_ceiling}
use Rattle.rules.specs.Limits.{ConsumerLimits, FormLimits, MonthLimits}
use Rattle.rules.specs.ControlHours.{control_hour, counted, control_sum, control_count, control_average}
use Rattle.rules.specs.Cut.{
  owns,
  support,
  bilateral,
  own_volume,
  own_support,
  own_bilateral,
  support_volume,
  bilateral_volume,
  summed_capacity,
  excess,
  left_to_cut,
  after_cut,
  row_count,
  single,
}
use Rattle.rules.specs.Coefficients.{support_after, capacity_after, coefficients}
use Rattle.rules.specs.Rows.{begun, factors, actual, payment}
use Rattle.rules.specs.Consumers.{credited, credit, counted_peak, percent, band, volume, charge}
use Rattle.rules.specs.Totals.{total_paid}
use Rattle.rules.specs.Fields.{big_endian, bytes_of, over}
use Rattle.rules.specs.Sheet.{header_of, layout_of, month_of, consumer_at, consumer_of, peak_at, with_peak}
use Rattle.rules.specs.Result.{TotalFigures, row_figures, consumer_figures, result_of}
use Rattle.rules.specs.Outcome.{Accepted, buffer_after}
use Rattle.rules.specs.ComplexRecord.{complex, drawn, sent}
use Rattle.rules.specs.Averaging.{
  net,
  complex_peak,
  average_refusal,
  peak_written,
  averaged,
  at_peak,
  with_peak_of,
}
use Rattle.laws.proofs.Range.{sum_times}
use Rattle.laws.proofs.Coefficients.{average_at_most}
use Rattle.laws.proofs.Fields.{length-bytes_of, same_bytes, Holds, read_held}
use Rattle.laws.proofs.Sheet.{consumer_inside}
use Rattle.laws.proofs.Written.{length-over_at, over_at_holds, over_at_keeps}
use Rattle.laws.proofs.Refusals.{limits}
use Rattle.laws.proofs.Answers as Answers
use Rattle.laws.proofs.Averaging.{WholeRecord, LowRecord, averaged_limits}
use Rattle.theorems.specs.Demand3.{WorseConsumer, Worse, NoBetter}
use Rattle.theorems.specs.Request3.{OutsidePeak, OnlyPeak, HigherDrawn, OnlyLine, NoLower}
use Rattle.theorems.proofs.Producers.{less_attested, control_average_mono}
use Rattle.theorems.proofs.ReadBack.{row_read, consumer_read, totals_read}
use Rattle.theorems.proofs.Demand3.{over_begins, begins, months_no_better}
use Rattle.theorems.proofs.OtherConsumers as Other

-- No row knows a consumer's figures, and no consumer those of another.
module _ (m : Month) (k : ℕ → Consumer) where
  rows_kept : (j : ℕ) → row_figures (with_consumers m k) j ≡ row_figures m j
  unfolding after_cut left_to_cut excess summed_capacity support_volume bilateral_volume own_support own_bilateral own_volume owns support bilateral row_count single support_after capacity_after coefficients begun factors actual payment
  rows_kept j = refl

  consumers_kept : (c : ℕ) → k c ≡ m.consumer c
      → consumer_figures (with_consumers m k) c ≡ consumer_figures m c
  unfolding charge volume band percent counted_peak credit credited after_cut left_to_cut excess summed_capacity support_volume bilateral_volume own_support own_bilateral own_volume owns support bilateral row_count single support_after capacity_after coefficients begun factors actual payment
  consumers_kept c e = rw e

  paid_kept : total_paid (with_consumers m k) ≡ total_paid m
  unfolding total_paid after_cut left_to_cut excess summed_capacity support_volume bilateral_volume own_support own_bilateral own_volume owns support bilateral row_count single support_after capacity_after coefficients begun factors actual payment
  paid_kept = refl

-- The control average of figures up to a ceiling is not above it, whatever it is rounded to.
control_average_at_most : (fineness : ℕ) (h : Header) (f : ℕ → ℕ) (most : ℕ)
    → ((i : ℕ) → i < hours h → f i ≤ most)
    → control_average fineness h f ≤ fineness * most
unfolding control_average
control_average_at_most fineness h f most low = average_at_most fineness most (control_count h) sums
  where
    times : (b : Bool) (v : ℕ) → v ≤ most → 1 * when b v ≤ most * when b 1
    times true v l = unfold when in omega (arith, l)
    times false v l = unfold when in omega arith

    sums : control_sum h f ≤ most * control_count h
    sums = unfold control_sum control_count counted in omega (arith, sum_times 1 most _ _ (hours h) (λ i l. times (control_hour h i) (f i) (low i l)))

-- Consumer c's peak, written into a sheet that numbers 1 to 6 let pass and that has this consumer.
module _ (s : List ℕ) (form : FormLimits s) (c peak : ℕ) (b : c < (header_of s).consumers) where
  abbrev after : List ℕ
  after = with_peak (layout_of s) c peak s

  abbrev consumers : ℕ → Consumer
  consumers = (with_peak_of (month_of s) c peak).consumer

  fits : peak_at (layout_of s) c + length (bytes_of 4 peak) ≤ length s
  fits = rw length-bytes_of (omega (arith, consumer_inside (layout_of s) c b, form.length_right, form.length_told))

  as_long : length after ≡ length s
  unfolding with_peak
  as_long = length-over_at (peak_at (layout_of s) c) (bytes_of 4 peak) s fits

  kept : (i : ℕ) → OutsidePeak s c i → get_or after i 0 ≡ get_or s i 0
  unfolding with_peak
  kept i o =
      over_at_keeps (peak_at (layout_of s) c) (bytes_of 4 peak) s fits i (λ q. rw length-bytes_of (o q))

  front_kept : (i : ℕ) → i < consumer_at (layout_of s) 0 → get_or after i 0 ≡ get_or s i 0
  front_kept i l = kept i (unfold consumer_at in λ q. omega (arith, l, q))

  -- A figure that does not reach into the peak.
  figure_kept : (w at : ℕ) → ((i : ℕ) → i < w → OutsidePeak s c (at + i))
      → big_endian w after at ≡ big_endian w s at
  figure_kept w at o = same_bytes w after s at at (λ i l. kept (at + i) (o i l))

  peak_read : peak < 256 ^ 4 → big_endian 4 after (peak_at (layout_of s) c) ≡ peak
  unfolding with_peak
  peak_read f = read_held 4 _ (peak_at (layout_of s) c) peak f (over_at_holds (peak_at (layout_of s) c) (bytes_of 4 peak) s fits)

  -- The consumers are the old ones, this one with its peak.
  own_kept : (w k : ℕ) → (k + w ≤ 4) ⊎ (8 ≤ k) → big_endian w after (consumer_at (layout_of s) c + k)
      ≡ big_endian w s (consumer_at (layout_of s) c + k)
  own_kept w k (inl l) = figure_kept w _ (λ i q p. omega (arith, l, q, p))
  own_kept w k (inr l) = figure_kept w _ (λ i q p. omega (arith, l, q, p))

  other_kept : (d w k : ℕ) → (d ≡ c → ⊥) → k + w ≤ 15 → big_endian w after (consumer_at (layout_of s) d + k)
      ≡ big_endian w s (consumer_at (layout_of s) d + k)
  other_kept d w k n l = figure_kept w (consumer_at (layout_of s) d + k) (λ i q p. omega (arith, apart d (k + i) n (omega (arith, l, q)) (omega (arith, p))))
    where
      apart : (d k : ℕ) → (d ≡ c → ⊥) → k < 15 → peak_at (layout_of s) c ≤ consumer_at (layout_of s) d + k
          → peak_at (layout_of s) c + 4 ≤ consumer_at (layout_of s) d + k
      apart d k n l p = unfold consumer_at in omega (arith, n, l, p)

  module _ (small : peak ≤ tenths_ceiling) where
    own_read : consumer_of after (consumer_at (layout_of s) c) ≡ at_peak ((month_of s).consumer c) peak
    own_read =
        rw (
          rw add-zero at (own_kept 4 0 (inl (omega arith))),
          peak_read (omega (arith, small)),
          own_kept 1 8 (inr (omega arith)),
          own_kept 1 9 (inr (omega arith)),
          own_kept 1 10 (inr (omega arith)),
          own_kept 4 11 (inr (omega arith)),
        )

    other_read : (d : ℕ) → (d ≡ c → ⊥)
        → consumer_of after (consumer_at (layout_of s) d) ≡ (month_of s).consumer d
    other_read d n =
        rw (
          rw add-zero at (other_kept d 4 0 n (omega arith)),
          other_kept d 4 4 n (omega arith),
          other_kept d 1 8 n (omega arith),
          other_kept d 1 9 n (omega arith),
          other_kept d 1 10 n (omega arith),
          other_kept d 4 11 n (omega arith),
        )

    consumers_read : (d : ℕ) → d < (header_of s).consumers
        → consumer_of after (consumer_at (layout_of s) d) ≡ consumers d
    consumers_read d l = go (eqb d c) refl
      where
        go : (q : Bool) → eqb d c ≡ q → consumer_of after (consumer_at (layout_of s) d)
            ≡ cond q (at_peak ((month_of s).consumer d) peak) ((month_of s).consumer d)
        go true e = rw (eqb-true d c e) own_read
        go false e = other_read d (eqb-false _ _ e)

    fine : MonthLimits (month_of s) → (d : ℕ) → d < (header_of s).consumers
        → ConsumerLimits (header_of s) (consumers d)
    fine w d l = go (eqb d c)
      where
        go : (q : Bool) → ConsumerLimits (header_of s) (cond q (at_peak ((month_of s).consumer d) peak) ((month_of s).consumer d))
        go true =
            let k = w.consumer d l in
            record {
              contract = k.contract;
              peak = small;
              price = k.price;
              supplier = k.supplier;
              grid = k.grid;
              z_from = k.z_from;
              z_to = k.z_to;
            }
        go false = w.consumer d l

-- The record of a complex, and the sheet afterwards.
module _ (s r : List ℕ) where
  abbrev new : List ℕ
  new = with_peak (layout_of s) (complex r) (complex_peak (header_of s) r) s

  abbrev month : Month
  month = with_peak_of (month_of s) (complex r) (complex_peak (header_of s) r)

  either : (P : List ℕ → Type 0) → (average_refusal s r ≡ 0 → P new) → P s → P (averaged s r)
  unfolding averaged peak_written
  either P there old = Answers.either (average_refusal s r) new s P there old

  pub refused_keeps : (average_refusal s r ≡ 0 → ⊥) → averaged s r ≡ s
  unfolding averaged peak_written
  refused_keeps n = Answers.kept (average_refusal s r) new s n

  -- A record that is taken.
  module _ (none : average_refusal s r ≡ 0) where
    form : FormLimits s
    form = (averaged_limits s r none).0.0

    month_kept : MonthLimits (month_of s)
    month_kept = (averaged_limits s r none).0.1

    whole : WholeRecord (header_of s) r
    whole = (averaged_limits s r none).1.0

    low : LowRecord (header_of s) r
    low = (averaged_limits s r none).1.1

    pub peak_most : complex_peak (header_of s) r ≤ tenths_ceiling
    unfolding complex_peak net
    peak_most = omega (arith, control_average_at_most tenth (header_of s) (λ i. drawn r i - sent r i) tenths_ceiling (λ i l. omega (arith, low.drawn i l)))

    long : length new ≡ length s
    long = as_long s form (complex r) (complex_peak (header_of s) r) whole.complex

    before : (i : ℕ) → i < consumer_at (layout_of s) 0 → get_or new i 0 ≡ get_or s i 0
    before = front_kept s form (complex r) (complex_peak (header_of s) r) whole.complex

    read : (c : ℕ) → c < (header_of s).consumers
        → consumer_of new (consumer_at (layout_of s) c) ≡ month.consumer c
    read = consumers_read s form (complex r) (complex_peak (header_of s) r) whole.complex peak_most

    within : (c : ℕ) → c < (header_of s).consumers → ConsumerLimits (header_of s) (month.consumer c)
    within = fine s form (complex r) (complex_peak (header_of s) r) whole.complex peak_most month_kept

    pub with_kept : MonthLimits month
    with_kept = Other.with_limits s new long before month.consumer read form within month_kept

    stays : (bytes : ℕ) → Accepted s bytes → Accepted new bytes
    stays = Other.stays s new long before month.consumer read form within

    is_written : averaged s r ≡ new
    unfolding averaged peak_written
    is_written = Answers.is_changed (average_refusal s r) new s none

    -- The peak is read from the sheet afterwards.
    pub peak_stated : ((month_of (averaged s r)).consumer (complex r)).peak ≡ complex_peak (header_of s) r
    peak_stated =
        ap (λ (x : List ℕ). ((month_of x).consumer (complex r)).peak) is_written
        ∙ ap (λ (k : Consumer). k.peak) ((Other.alike_after s new long before month.consumer read).consumer (complex r) whole.complex)
        ∙ rw (eq-eqb (complex r) (complex r) refl)

    pub settled : (out : List ℕ) → Accepted s (length out)
        → buffer_after (averaged s r) out ≡ over (result_of month) out
    settled out a = ap (λ (x : List ℕ). buffer_after x out) is_written ∙ Other.settled s new long before month.consumer read form within out a

  pub one_field : OnlyPeak (complex r) s (averaged s r)
  one_field =
      either (OnlyPeak (complex r) s)
      (λ none.
      record {
        as_long = long none;
        kept = kept s (form none) (complex r) (complex_peak (header_of s) r) (whole none).complex;
        stays_accepted = stays none;
      })
      (record { as_long = refl; kept = λ i o. refl; stays_accepted = λ bytes a. a })

-- Two months whose consumers differ in c alone, and buffers that begin with their results.
module _ (m : Month) (c : ℕ) (k k' : ℕ → Consumer) (same : (d : ℕ) → (d ≡ c → ⊥) → k' d ≡ k d)
    (w : MonthLimits (with_consumers m k)) (w' : MonthLimits (with_consumers m k'))
    (out out' : List ℕ) (b : Holds out 0 (result_of (with_consumers m k))) (b' : Holds out' 0 (result_of (with_consumers m k'))) where
  only_line : OnlyLine m.header c out out'
  only_line =
      record {
        row = λ j l. row_read (with_consumers m k') w' out' b' j l ∙ rows_kept (with_consumers m k) k' j ∙ sym (row_read (with_consumers m k) w out b j l);
        consumer =
            λ d l n.
            consumer_read (with_consumers m k') w' out' b' d l
            ∙ consumers_kept (with_consumers m k) k' d (same d n)
            ∙ sym (consumer_read (with_consumers m k) w out b d l);
        paid =
            ap (λ (f : TotalFigures). f.paid) (totals_read (with_consumers m k') w' out' b')
            ∙ paid_kept (with_consumers m k) k'
            ∙ sym (ap (λ (f : TotalFigures). f.paid) (totals_read (with_consumers m k) w out b));
      }

-- A consumer that is not c is the month's.
other_peak : (m : Month) (c p d : ℕ) → (d ≡ c → ⊥) → (with_peak_of m c p).consumer d ≡ m.consumer d
other_peak m c p d n = rw (ne_eqb d c n)

-- Before and after one record, and after two.
module _ (s : List ℕ) where
  pub line_kept : (r out out' : List ℕ) → Accepted s (length out) → Accepted s (length out')
      → OnlyLine (header_of s) (complex r) (buffer_after s out) (buffer_after (averaged s r) out')
  line_kept r out out' a a' =
      either s r (λ (t : List ℕ). averaged s r ≡ t → OnlyLine (header_of s) (complex r) (buffer_after s out) (buffer_after (averaged s r) out'))
      (λ none e.
      only_line (month_of s) (complex r) (month_of s).consumer (month s r).consumer (other_peak (month_of s) (complex r) _)
      w (with_kept s r none) (buffer_after s out) (buffer_after (averaged s r) out') (begins s out a) (over_begins _ out' (settled s r none out' a')))
      (λ e.
      rw e
      (only_line (month_of s) (complex r) (month_of s).consumer (month_of s).consumer (λ d n. refl)
      w w (buffer_after s out) (buffer_after s out') (begins s out a) (begins s out' a')))
      refl
    where
      w : MonthLimits (month_of s)
      w = (limits s (length out) a).month

  module _ (r r' : List ℕ) (none : average_refusal s r ≡ 0) (none' : average_refusal s r' ≡ 0) (higher : HigherDrawn (header_of s) r r') where
    peak_up : complex_peak (header_of s) r ≤ complex_peak (header_of s) r'
    unfolding complex_peak net
    peak_up =
        let up = control_average_mono tenth (header_of s) (λ i. drawn r i - sent r i) (λ i. drawn r' i - sent r' i) (λ i l. omega (arith, higher.drawn i l, higher.sent i l)) in
        omega (arith, up, higher.imported)

    worse : Worse (month s r) (with_peak_of (month_of s) (complex r) (complex_peak (header_of s) r'))
    worse = record { producer = λ p l. less_attested ((month_of s).producer p) _ (le_refl _); row = λ j l. refl; consumer = λ d l. go d (eqb d (complex r)) }
      where
        at : (k : Consumer) (p q : ℕ) → p ≤ q → WorseConsumer (at_peak k p) (at_peak k q)
        at k p q l = record {
          contract = refl;
          peak = l;
          supplier = le_refl _;
          grid = le_refl _;
          z = le_refl _;
          price = refl;
        }

        go : (d : ℕ) (q : Bool)
            → WorseConsumer (cond q (at_peak ((month_of s).consumer d) (complex_peak (header_of s) r)) ((month_of s).consumer d))
            (cond q (at_peak ((month_of s).consumer d) (complex_peak (header_of s) r')) ((month_of s).consumer d))
        go d true = at ((month_of s).consumer d) _ _ peak_up
        go d false = at ((month_of s).consumer d) _ _ (le_refl ((month_of s).consumer d).peak)

    module _ (out out' : List ℕ) (a : Accepted s (length out)) (a' : Accepted s (length out')) where
      abbrev first : List ℕ
      first = buffer_after (averaged s r) out

      abbrev second : List ℕ
      second = buffer_after (averaged s r') out'

      held : Holds first 0 (result_of (month s r))
      held = over_begins _ out (settled s r none out a)

      held' : Holds second 0 (result_of (with_peak_of (month_of s) (complex r) (complex_peak (header_of s) r')))
      held' = rw (sym higher.complex) (over_begins _ out' (settled s r' none' out' a'))

      kept' : MonthLimits (with_peak_of (month_of s) (complex r) (complex_peak (header_of s) r'))
      kept' = rw (sym higher.complex) (with_kept s r' none')

      better : NoBetter (header_of s) first second
      better =
          months_no_better (month s r) (with_peak_of (month_of s) (complex r) (complex_peak (header_of s) r')) refl (with_kept s r none) kept' worse (λ p l more. refl)
          first second held held'

      pub no_lower : NoLower (header_of s) (complex r) first second
          × OnlyLine (header_of s) (complex r) first second
      no_lower =
          let l = (whole s r none).complex in (
            record {
              volume = better.consumer_volume _ l;
              charge = better.consumer_charge _ l;
              total_charged = better.total_charged;
            },
            only_line (month_of s) (complex r) (month s r).consumer (with_peak_of (month_of s) (complex r) (complex_peak (header_of s) r')).consumer
                (λ d n. other_peak (month_of s) (complex r) _ d n ∙ sym (other_peak (month_of s) (complex r) _ d n))
                (with_kept s r none) kept' first second held held',
          )
