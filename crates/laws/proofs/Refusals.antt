-- Acceptance gives every limit by name, and the limits give acceptance. Assumes nothing.
use mathlib.Core.Path.{◌≡◌, refl, sym, ◌∙◌}
use mathlib.Core.Bool.{Bool, true, false, not, cond, ◌&&◌, true≢false}
use mathlib.Core.List.{List, [], ◌∷◌, ◌++◌}
use Prim.Native.Nat.{ℕ, ◌+◌, ◌/◌, ◌^◌, ◌≤◌, ◌<◌}
use native.Mathlib.Nat.{one-mul, div-lt_iff_lt-mul, div-eq_of_lt}
use native.Mathlib.Omega.{arith}
use borrow.Author.Tests.{ltb-false, leb-false, eqb-true, eqb-false, ne_eqb, eq-eqb, le-ltb, lt-ltb, lt-leb}
use lib.ListN.{length}
use lib.Pow.{pow_pos}
use lib.Dec.{T, leb, ltb, eqb, leb→le}
use lib.Ieee.Fits.{and_l, and_r}
use Rattle.rules.specs.Range.{any}
use Rattle.rules.specs.Units.{tenths_ceiling, tiyn_ceiling}
use Rattle.rules.specs.declared.Header.{Header}
use Rattle.rules.specs.declared.Row.{Row}
use Rattle.rules.specs.declared.Consumer.{Consumer}
use Rattle.rules.specs.Month.{Producer, Month, hours}
use Rattle.rules.specs.declared.Layout.{Layout}
use Rattle.rules.specs.Sheet.{header_of, layout_of, month_of, hours_width, hours_at}
use Rattle.rules.specs.Result.{result_length}
use Rattle.rules.specs.Refusals.{
  one_of,
  bad_version,
  bad_month,
  too_many,
  bad_share,
  too_high,
  high_hour,
  high_producer,
  high_row,
  high_consumer,
  bad_reference,
  too_dear,
  bad_factor,
  bad_days,
  Test,
  front_tests,
  header_tests,
  form_tests,
  room_tests,
  figure_tests,
  sheet_tests,
  tests_for,
  tests,
  applies,
  first_of,
  refusal,
}
use Rattle.rules.specs.Limits.{
  HeaderLimits,
  ProducerLimits,
  RowLimits,
  ConsumerLimits,
  MonthLimits,
  FormLimits,
  LimitsFor,
  SheetLimits,
}
use Rattle.rules.specs.Outcome.{Accepted, hours_stretch}
use Rattle.laws.proofs.Sheet.{hours_inside}
use Rattle.laws.proofs.Range.{or_left, or_right, any_clear, any_none}

-- Where the first number is 0 no test applies, if none has the number 0.
abbrev pub numbered : List Test → Bool
numbered [] = true
numbered (t ∷ ts) = leb 1 t.number && numbered ts

pub none_applies : (ts : List Test) → T (numbered ts) → first_of ts ≡ 0 → (n : ℕ) → applies n ts ≡ false
unfolding first_of applies
none_applies [] t e n = refl
none_applies (x ∷ xs) t e n = go x.applies refl e (none_applies xs (and_r (leb 1 x.number) (numbered xs) t))
  where
    other : (b : Bool) → applies n xs ≡ false → cond b false (applies n xs) ≡ false
    other true q = refl
    other false q = q

    go : (b : Bool) → x.applies ≡ b → cond b x.number (first_of xs) ≡ 0
        → (first_of xs ≡ 0 → (k : ℕ) → applies k xs ≡ false)
        → cond (eqb x.number n) x.applies (applies n xs) ≡ false
    go true q f rest = absurd (omega (arith, leb→le 1 x.number (and_l (leb 1 x.number) (numbered xs) t)))
    go false q f rest = rw q (other (eqb x.number n) (rest f n))

-- A list tried after another: its first number counts where the other has none.
pub first_append : (xs ys : List Test) → T (numbered xs)
    → first_of (xs ++ ys) ≡ cond (eqb (first_of xs) 0) (first_of ys) (first_of xs)
unfolding first_of
first_append [] ys t = refl
first_append (x ∷ xs) ys t = go x.applies (first_append xs ys (and_r (leb 1 x.number) (numbered xs) t))
  where
    positive : x.number ≡ 0 → ⊥
    positive e = omega (arith, e, leb→le 1 x.number (and_l (leb 1 x.number) (numbered xs) t))

    go : (b : Bool) → first_of (xs ++ ys) ≡ cond (eqb (first_of xs) 0) (first_of ys) (first_of xs)
        → cond b x.number (first_of (xs ++ ys))
        ≡ cond (eqb (cond b x.number (first_of xs)) 0) (first_of ys) (cond b x.number (first_of xs))
    go true e = rw (ne_eqb x.number 0 positive)
    go false e = e

-- So where the first list has a number it stands, and where it has none the second list's does.
pub first_stands : (xs ys : List Test) → T (numbered xs) → (first_of xs ≡ 0 → ⊥)
    → first_of xs ≡ first_of (xs ++ ys)
first_stands xs ys t n = sym (first_append xs ys t ∙ rw (ne_eqb (first_of xs) 0 n))

pub first_next : (xs ys : List Test) → T (numbered xs) → first_of xs ≡ 0 → first_of ys ≡ first_of (xs ++ ys)
first_next xs ys t e = sym (first_append xs ys t ∙ rw e)

pub first_both : (xs ys : List Test) → T (numbered xs) → first_of (xs ++ ys) ≡ 0
    → (first_of xs ≡ 0) × (first_of ys ≡ 0)
first_both xs ys t e = go (eqb (first_of xs) 0) refl (sym (first_append xs ys t) ∙ e)
  where
    go : (b : Bool) → eqb (first_of xs) 0 ≡ b → cond b (first_of ys) (first_of xs) ≡ 0
        → (first_of xs ≡ 0) × (first_of ys ≡ 0)
    go true q f = (eqb-true _ _ q, f)
    go false q f = absurd (eqb-false _ _ q f)

pub both_first : (xs ys : List Test) → T (numbered xs) → first_of xs ≡ 0 → first_of ys ≡ 0
    → first_of (xs ++ ys) ≡ 0
both_first xs ys t e f = first_append xs ys t ∙ rw (e, f)

-- Where each test of a list fails, no number comes out.
abbrev Clear : List Test → Type 0
Clear [] = Unit {0}
Clear (t ∷ ts) = (t.applies ≡ false) × Clear ts

all_clear : (ts : List Test) → Clear ts → first_of ts ≡ 0
unfolding first_of
all_clear [] c = refl
all_clear (t ∷ ts) c = rw c.0 (all_clear ts c.1)

-- Each of a list of tests fails.
abbrev pub Fail : List Bool → Type 0
Fail [] = Unit {0}
Fail (b ∷ bs) = (b ≡ false) × Fail bs

pub none_of : (bs : List Bool) → one_of bs ≡ false → Fail bs
unfolding one_of
none_of [] e = tt
none_of (b ∷ bs) e = (or_left b (one_of bs) e, none_of bs (or_right b (one_of bs) e))

all_fail : (bs : List Bool) → Fail bs → one_of bs ≡ false
unfolding one_of
all_fail [] f = refl
all_fail (b ∷ bs) f = rw (f.0, all_fail bs f.1)

pub not_true : (b : Bool) → not b ≡ false → b ≡ true
not_true true e = refl
not_true false e = absurd (true≢false e)

differs_not : (a b : ℕ) → a ≡ b → not (eqb a b) ≡ false
differs_not a b e = rw (eq-eqb a b e)

-- No bit stands at or above a place: the number is below that power of 2.
no_bit_above : (x k : ℕ) → ltb 0 (x / 2 ^ k) ≡ false → x < 2 ^ k
no_bit_above x k e = rw (one-mul (2 ^ k)) at ((div-lt_iff_lt-mul {x = x} {y = 1} (pow_pos k)).0 (omega (arith, ltb-false 0 (x / 2 ^ k) e)))

-- One figure within a ceiling, as its test has it.
pub high_clear : (v : ℕ) → too_high v ≡ false → v ≤ tenths_ceiling
unfolding too_high
high_clear v e = ltb-false _ _ e

pub clear_high : (v : ℕ) → v ≤ tenths_ceiling → too_high v ≡ false
unfolding too_high
clear_high v l = le-ltb _ _ l

dear_clear : (v : ℕ) → too_dear v ≡ false → v ≤ tiyn_ceiling
unfolding too_dear
dear_clear v e = ltb-false _ _ e

pub clear_dear : (v : ℕ) → v ≤ tiyn_ceiling → too_dear v ≡ false
unfolding too_dear
clear_dear v l = le-ltb _ _ l

-- The limits of one record from its tests, and its tests from the limits.
module _ (h : Header) where
  pub header_limits : bad_month h ≡ false → too_many h ≡ false → HeaderLimits h
  unfolding bad_month too_many
  header_limits e4 e5 =
      let a = none_of _ e4 in
      let b = none_of _ e5 in
      record {
        days_from = ltb-false _ _ a.0;
        days_to = ltb-false _ _ a.1.0;
        weekday_from = ltb-false _ _ a.1.1.0;
        weekday_to = ltb-false _ _ a.1.1.1.0;
        holidays = no_bit_above _ _ a.1.1.1.1.0;
        producers = ltb-false _ _ b.0;
        rows = ltb-false _ _ b.1.0;
        consumers = ltb-false _ _ b.1.1.0;
      }

  month_clear : HeaderLimits h → bad_month h ≡ false
  unfolding bad_month
  month_clear l =
      all_fail _ (
        le-ltb _ _ l.days_from,
        (
          le-ltb _ _ l.days_to,
          (le-ltb _ _ l.weekday_from, (le-ltb _ _ l.weekday_to, (rw (div-eq_of_lt l.holidays), tt))),
        ),
      )

  counts_clear : HeaderLimits h → too_many h ≡ false
  unfolding too_many
  counts_clear l = all_fail _ (le-ltb _ _ l.producers, (le-ltb _ _ l.rows, (le-ltb _ _ l.consumers, tt)))

  producer_limits : (p : Producer) → bad_share h p ≡ false → high_producer h p ≡ false → ProducerLimits h p
  unfolding bad_share high_producer
  producer_limits p e8 e9 =
      let a = none_of _ e8 in
      let b = none_of _ e9 in
      record {
        no_upward_bid = ltb-false _ _ a.0;
        no_downward_bid = ltb-false _ _ a.1.0;
        no_plan = ltb-false _ _ a.1.1.0;
        k3 = ltb-false _ _ a.1.1.1.0;
        k6 = ltb-false _ _ a.1.1.1.1.0;
        k7 = ltb-false _ _ a.1.1.1.1.1.0;
        k8 = ltb-false _ _ a.1.1.1.1.1.1.0;
        k9 = ltb-false _ _ a.1.1.1.1.1.1.1.0;
        k10 = ltb-false _ _ a.1.1.1.1.1.1.1.1.0;
        attested = high_clear _ b.0;
        deductible = high_clear _ b.1.0;
        own_needs = high_clear _ b.1.1.0;
        working = λ i l. high_clear _ (hour b.1.1.1.0 i l).0;
        possible = λ i l. high_clear _ (hour b.1.1.1.0 i l).1.0;
        outside_use = λ i l. high_clear _ (hour b.1.1.1.0 i l).1.1.0;
      }
    where
      hour : any (high_hour p) (hours h) ≡ false → (i : ℕ) → i < hours h
          → Fail (too_high (p.working i) ∷ too_high (p.possible i) ∷ too_high (p.outside_use i) ∷ [])
      hour e i l = unfold high_hour in none_of _ (any_clear (high_hour p) (hours h) e i l)

  share_clear : (p : Producer) → ProducerLimits h p → bad_share h p ≡ false
  unfolding bad_share
  share_clear p l =
      all_fail _ (
        le-ltb _ _ l.no_upward_bid,
        (
          le-ltb _ _ l.no_downward_bid,
          (
            le-ltb _ _ l.no_plan,
            (
              le-ltb _ _ l.k3,
              (
                le-ltb _ _ l.k6,
                (le-ltb _ _ l.k7, (le-ltb _ _ l.k8, (le-ltb _ _ l.k9, (le-ltb _ _ l.k10, tt)))),
              ),
            ),
          ),
        ),
      )

  producer_clear : (p : Producer) → ProducerLimits h p → high_producer h p ≡ false
  unfolding high_producer
  producer_clear p l =
      all_fail _ (
        clear_high _ l.attested,
        (
          clear_high _ l.deductible,
          (clear_high _ l.own_needs, (any_none (high_hour p) (hours h) hour, tt)),
        ),
      )
    where
      hour : (i : ℕ) → i < hours h → high_hour p i ≡ false
      hour i q = unfold high_hour in all_fail _ (clear_high _ (l.working i q), (clear_high _ (l.possible i q), (clear_high _ (l.outside_use i q), tt)))

  row_limits : (r : Row) → high_row r ≡ false → bad_reference h r ≡ false → too_dear r.price ≡ false
      → bad_days h r ≡ false → RowLimits h r
  unfolding high_row bad_reference bad_days
  row_limits r e9 e10 e11 e18 =
      let b = none_of _ e10 in
      let d = none_of _ e18 in
      record {
        volume = high_clear _ e9;
        producer = leb-false _ _ b.0;
        consumer = λ n. leb-false _ _ (rw (ne_eqb _ _ n) at b.1.0);
        price = dear_clear _ e11;
        first_from = ltb-false _ _ d.0;
        last_from = ltb-false _ _ d.1.0;
        last_to = ltb-false _ _ d.1.1.0;
      }

  row_clear : (r : Row) → RowLimits h r → high_row r ≡ false
  unfolding high_row
  row_clear r l = clear_high _ l.volume

  reference_clear : (r : Row) → RowLimits h r → bad_reference h r ≡ false
  unfolding bad_reference
  reference_clear r l = all_fail _ (lt-leb _ _ l.producer, (go (eqb r.consumer 255) refl, tt))
    where
      go : (b : Bool) → eqb r.consumer 255 ≡ b → (not b && leb h.consumers r.consumer) ≡ false
      go true e = refl
      go false e = lt-leb _ _ (l.consumer (eqb-false _ _ e))

  days_clear : (r : Row) → RowLimits h r → bad_days h r ≡ false
  unfolding bad_days
  days_clear r l = all_fail _ (le-ltb _ _ l.first_from, (le-ltb _ _ l.last_from, (le-ltb _ _ l.last_to, tt)))

  pub consumer_limits : (c : Consumer) → high_consumer c ≡ false → too_dear c.price ≡ false
      → bad_factor h c ≡ false → ConsumerLimits h c
  unfolding high_consumer bad_factor
  consumer_limits c e9 e11 e12 =
      let a = none_of _ e9 in
      let b = none_of _ e12 in
      record {
        contract = high_clear _ a.0;
        peak = high_clear _ a.1.0;
        price = dear_clear _ e11;
        supplier = ltb-false _ _ b.0;
        grid = ltb-false _ _ b.1.0;
        z_from = ltb-false _ _ b.1.1.0;
        z_to = ltb-false _ _ b.1.1.1.0;
      }

  pub consumer_clear : (c : Consumer) → ConsumerLimits h c → high_consumer c ≡ false
  unfolding high_consumer
  consumer_clear c l = all_fail _ (clear_high _ l.contract, (clear_high _ l.peak, tt))

  pub factor_clear : (c : Consumer) → ConsumerLimits h c → bad_factor h c ≡ false
  unfolding bad_factor
  factor_clear c l =
      all_fail _ (
        le-ltb _ _ l.supplier,
        (le-ltb _ _ l.grid, (le-ltb _ _ l.z_from, (le-ltb _ _ l.z_to, tt))),
      )

-- No test of 1 to 3, of 4 to 6, 7, or of 1 to 6, has the number 0.
pub front_numbered : (s : List ℕ) → T (numbered (front_tests s))
unfolding front_tests
front_numbered s = tt

pub header_numbered : (l : Layout) (bytes : ℕ) → T (numbered (header_tests l bytes))
unfolding header_tests
header_numbered l bytes = tt

pub room_numbered : (needed room : ℕ) → T (numbered (room_tests needed room))
unfolding room_tests
room_numbered needed room = tt

pub form_numbered : (s : List ℕ) → T (numbered (form_tests s))
unfolding front_tests header_tests form_tests
form_numbered s = tt

-- Numbers 1 to 6, from their tests and back.
module _ (s : List ℕ) where
  pub form_limits : first_of (form_tests s) ≡ 0 → FormLimits s
  unfolding front_tests header_tests form_tests applies bad_version
  form_limits e =
      let c : (n : ℕ) → applies n (form_tests s) ≡ false = none_applies (form_tests s) tt e in
      let c3 = none_of _ (c 3) in
      record {
        whole_header = ltb-false _ _ (c 1);
        length_told = eqb-true _ _ (not_true _ (c 2));
        version_from = ltb-false _ _ c3.0;
        version_to = ltb-false _ _ c3.1.0;
        header = header_limits (header_of s) (c 4) (c 5);
        length_right = eqb-true _ _ (not_true _ (c 6));
      }

  pub form_clear : FormLimits s → first_of (form_tests s) ≡ 0
  unfolding front_tests header_tests form_tests bad_version
  form_clear l =
      all_clear _ (
        le-ltb _ _ l.whole_header,
        (
          differs_not _ _ l.length_told,
          (
            all_fail _ (le-ltb _ _ l.version_from, (le-ltb _ _ l.version_to, tt)),
            (month_clear _ l.header, (counts_clear _ l.header, (differs_not _ _ l.length_right, tt))),
          ),
        ),
      )

-- Numbers 8 to 12 and 18, from their tests and back.
module _ (m : Month) where
  pub month_limits : HeaderLimits m.header → first_of (figure_tests m) ≡ 0 → MonthLimits m
  unfolding figure_tests applies
  month_limits w e =
      let c : (n : ℕ) → applies n (figure_tests m) ≡ false = none_applies (figure_tests m) tt e in
      let c9 = none_of _ (c 9) in
      let c11 = none_of _ (c 11) in
      record {
        header = w;
        producer = λ p l. producer_limits _ _ (any_clear _ _ (c 8) p l) (any_clear _ _ c9.0 p l);
        row = λ j l. row_limits _ _ (any_clear _ _ c9.1.0 j l) (any_clear _ _ (c 10) j l) (any_clear _ _ c11.0 j l) (any_clear _ _ (c 18) j l);
        consumer = λ k l. consumer_limits _ _ (any_clear _ _ c9.1.1.0 k l) (any_clear _ _ c11.1.0 k l) (any_clear _ _ (c 12) k l);
      }

  month_figures_clear : MonthLimits m → first_of (figure_tests m) ≡ 0
  unfolding figure_tests
  month_figures_clear w =
      all_clear _ (
        any_none _ _ (λ p l. share_clear _ _ (w.producer p l)),
        (
          all_fail _ (
            any_none _ _ (λ p l. producer_clear _ _ (w.producer p l)),
            (
              any_none _ _ (λ j l. row_clear m.header _ (w.row j l)),
              (any_none _ _ (λ k l. consumer_clear m.header _ (w.consumer k l)), tt),
            ),
          ),
          (
            any_none _ _ (λ j l. reference_clear _ _ (w.row j l)),
            (
              all_fail _ (
                any_none _ _ (λ j l. clear_dear _ (w.row j l).price),
                (any_none _ _ (λ k l. clear_dear _ (w.consumer k l).price), tt),
              ),
              (
                any_none _ _ (λ k l. factor_clear _ _ (w.consumer k l)),
                (any_none _ _ (λ j l. days_clear _ _ (w.row j l)), tt),
              ),
            ),
          ),
        ),
      )

-- Number 7, of a result of so many bytes and a buffer of so many.
module _ (needed room : ℕ) where
  pub room_limit : first_of (room_tests needed room) ≡ 0 → needed ≤ room
  unfolding room_tests applies
  room_limit e = ltb-false _ _ (none_applies (room_tests needed room) (room_numbered needed room) e 7)

  room_clear : needed ≤ room → first_of (room_tests needed room) ≡ 0
  unfolding room_tests
  room_clear l = all_clear _ (le-ltb _ _ l, tt)

-- All together: the limits are what acceptance means.
module _ (needed : ℕ) (s : List ℕ) (room : ℕ) where
  before_figures : List Test
  before_figures = form_tests s ++ room_tests needed room

  before_numbered : T (numbered before_figures)
  unfolding before_figures front_tests header_tests form_tests room_tests
  before_numbered = tt

  pub limits_for : first_of (tests_for needed s room) ≡ 0 → LimitsFor needed s room
  unfolding tests_for before_figures
  limits_for a =
      let x = first_both before_figures (figure_tests (month_of s)) before_numbered a in
      let y = first_both (form_tests s) (room_tests needed room) (form_numbered s) x.0 in
      record {
        form = form_limits s y.0;
        enough_room = room_limit needed room y.1;
        month = month_limits (month_of s) (form_limits s y.0).header x.1;
      }

  pub for_limits : LimitsFor needed s room → first_of (tests_for needed s room) ≡ 0
  unfolding tests_for before_figures
  for_limits l =
      both_first before_figures (figure_tests (month_of s)) before_numbered
      (both_first (form_tests s) (room_tests needed room) (form_numbered s) (form_clear s l.form) (room_clear needed room l.enough_room))
      (month_figures_clear (month_of s) l.month)

-- Of the settlement.
module _ (s : List ℕ) (room : ℕ) where
  pub limits : Accepted s room → SheetLimits s room
  unfolding refusal tests
  limits a = limits_for (result_length (header_of s)) s room a

  pub accepted : SheetLimits s room → Accepted s room
  unfolding refusal tests
  accepted l = for_limits (result_length (header_of s)) s room l

-- The sheet's own numbers, all but 7.
pub sheet_numbered : (s : List ℕ) → T (numbered (sheet_tests s))
unfolding sheet_tests form_tests front_tests header_tests figure_tests
sheet_numbered s = tt

pub sheet_limits : (s : List ℕ) → first_of (sheet_tests s) ≡ 0 → FormLimits s × MonthLimits (month_of s)
unfolding sheet_tests
sheet_limits s e =
    let parts = first_both (form_tests s) (figure_tests (month_of s)) (form_numbered s) e in
    let form = form_limits s parts.0 in
    (form, month_limits (month_of s) form.header parts.1)

pub sheet_clear : (s : List ℕ) → FormLimits s → MonthLimits (month_of s) → first_of (sheet_tests s) ≡ 0
unfolding sheet_tests
sheet_clear s form month =
    both_first (form_tests s) (figure_tests (month_of s)) (form_numbered s) (form_clear s form) (month_figures_clear (month_of s) month)

-- The stretch of hours: where it stands, that it ends within the sheet, and where there is none.
module _ (s : List ℕ) (p : ℕ) where
  pub stretch_there : first_of (form_tests s) ≡ 0 → p < (header_of s).producers
      → hours_stretch s p ≡ record { place = hours_at (layout_of s) p; bytes = hours_width (header_of s) }
  unfolding hours_stretch
  stretch_there e l = rw (eq-eqb _ _ e, lt-ltb _ _ l)

  pub stretch_ends : first_of (form_tests s) ≡ 0 → p < (header_of s).producers
      → hours_at (layout_of s) p + hours_width (header_of s) ≤ length s
  stretch_ends e l =
      let f = form_limits s e in
      omega (arith, f.length_told, f.length_right, hours_inside (layout_of s) p l)

  pub stretch_refused : (first_of (form_tests s) ≡ 0 → ⊥)
      → hours_stretch s p ≡ record { place = 0; bytes = 0 }
  unfolding hours_stretch
  stretch_refused n = rw (ne_eqb _ _ n)

  pub stretch_none : first_of (form_tests s) ≡ 0 → (header_of s).producers ≤ p
      → hours_stretch s p ≡ record { place = 0; bytes = 0 }
  unfolding hours_stretch
  stretch_none e l = rw (eq-eqb _ _ e, le-ltb _ _ l)
