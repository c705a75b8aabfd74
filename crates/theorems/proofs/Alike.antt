-- Alike months have one result: by demand 3's relation, read in both directions. Assumes nothing.
use mathlib.Core.Path.{◌≡◌, refl, sym, ap, ap₂, ◌∙◌}
use mathlib.Core.List.{List, ◌++◌}
use Prim.Native.Nat.{ℕ, zero, suc, ◌+◌, ◌*◌, ◌<◌}
use native.Mathlib.Nat.{add_assoc, le_of_eq, le_antisymm}
use native.Mathlib.Omega.{arith}
use Rattle.rules.specs.declared.Header.{Header}
use Rattle.rules.specs.declared.Layout.{Layout}
use Rattle.rules.specs.declared.Stated.{Stated}
use Rattle.rules.specs.declared.Series.{Series}
use Rattle.rules.specs.declared.HourSeries.{HourSeries}
use Rattle.rules.specs.Month.{Producer, Month, hours}
use Rattle.rules.specs.Limits.{ProducerLimits, MonthLimits}
use Rattle.rules.specs.Cut.{after_cut}
use Rattle.rules.specs.Rows.{actual, payment}
use Rattle.rules.specs.Consumers.{credit, counted_peak, percent, band, volume, charge}
use Rattle.rules.specs.Totals.{total_paid, total_charged}
use Rattle.rules.specs.Fields.{laid, joined}
use Rattle.rules.specs.Sheet.{
  stated_width,
  producer_width,
  producer_at,
  hours_at,
  hour_series,
  power,
  producer_under,
}
use Rattle.rules.specs.Result.{
  RowFigures,
  ConsumerFigures,
  TotalFigures,
  row_figures,
  consumer_figures,
  total_figures,
  row_fields,
  consumer_fields,
  total_fields,
  head_fields,
  row_record,
  consumer_record,
  result_of,
}
use Rattle.laws.proofs.Sheet.{Spans, series_span, span_ends, SameFields, stated_same}
use Rattle.theorems.specs.Demand3.{WorseProducer, Worse, MoreRowsKeepAttested}
use Rattle.theorems.specs.Alike.{SameProducer, Alike}
use Rattle.theorems.proofs.Rows as Rows
use Rattle.theorems.proofs.Months as Months

same_back : {n : ℕ} {p p' : Producer} → SameProducer n p p' → SameProducer n p' p
same_back a =
    record {
      attested = sym a.attested;
      deductible = sym a.deductible;
      own_needs = sym a.own_needs;
      no_upward_bid = sym a.no_upward_bid;
      no_downward_bid = sym a.no_downward_bid;
      no_plan = sym a.no_plan;
      k3 = sym a.k3;
      k6 = sym a.k6;
      k7 = sym a.k7;
      k8 = sym a.k8;
      k9 = sym a.k9;
      k10 = sym a.k10;
      working = λ i l. sym (a.working i l);
      possible = λ i l. sym (a.possible i l);
      outside_use = λ i l. sym (a.outside_use i l);
    }

same_worse : {n : ℕ} {p p' : Producer} → SameProducer n p p' → WorseProducer n p p'
same_worse a =
    record {
      attested = le_of_eq a.attested;
      deductible = a.deductible;
      own_needs = a.own_needs;
      no_upward_bid = le_of_eq (sym a.no_upward_bid);
      no_downward_bid = le_of_eq (sym a.no_downward_bid);
      no_plan = le_of_eq (sym a.no_plan);
      k3 = le_of_eq a.k3;
      k6 = le_of_eq a.k6;
      k7 = le_of_eq a.k7;
      k8 = le_of_eq a.k8;
      k9 = le_of_eq a.k9;
      k10 = le_of_eq a.k10;
      working = λ i l. le_of_eq (a.working i l);
      possible = a.possible;
      outside_use = λ i l. le_of_eq (sym (a.outside_use i l));
    }

same_limits : {h : Header} {p p' : Producer} → SameProducer (hours h) p p' → ProducerLimits h p
    → ProducerLimits h p'
same_limits a w =
    record {
      no_upward_bid = rw a.no_upward_bid w.no_upward_bid;
      no_downward_bid = rw a.no_downward_bid w.no_downward_bid;
      no_plan = rw a.no_plan w.no_plan;
      k3 = rw a.k3 w.k3;
      k6 = rw a.k6 w.k6;
      k7 = rw a.k7 w.k7;
      k8 = rw a.k8 w.k8;
      k9 = rw a.k9 w.k9;
      k10 = rw a.k10 w.k10;
      attested = rw a.attested w.attested;
      deductible = rw a.deductible w.deductible;
      own_needs = rw a.own_needs w.own_needs;
      working = λ i l. rw (a.working i l) (w.working i l);
      possible = λ i l. rw (a.possible i l) (w.possible i l);
      outside_use = λ i l. rw (a.outside_use i l) (w.outside_use i l);
    }

-- Producers whose stated figures are the same bytes, each under its layout, and whose series have the same
-- powers.
module _ (l l' : Layout) (s t : List ℕ) (p : ℕ) where
  abbrev pub SamePowers : Series → Series → Type 0
  SamePowers x x' = (i : ℕ) → i < hours l.header → power t (hours_at l' p) x' i ≡ power s (hours_at l p) x i

  pub producer_alike : SameFields stated_width t (producer_at l' p) s (producer_at l p)
      → SamePowers (hour_series l).working (hour_series l').working
      → SamePowers (hour_series l).possible (hour_series l').possible
      → SamePowers (hour_series l).outside (hour_series l').outside
      → SameProducer (hours l.header) (producer_under l s p) (producer_under l' t p)
  producer_alike field working possible outside =
      let e = stated_same t (producer_at l' p) s (producer_at l p) field in
      record {
        attested = ap (λ (x : Stated). x.attested) e;
        deductible = ap (λ (x : Stated). x.deductible) e;
        own_needs = ap (λ (x : Stated). x.needs) e;
        no_upward_bid = ap (λ (x : Stated). x.upward) e;
        no_downward_bid = ap (λ (x : Stated). x.downward) e;
        no_plan = ap (λ (x : Stated). x.plan) e;
        k3 = ap (λ (x : Stated). x.k3) e;
        k6 = ap (λ (x : Stated). x.k6) e;
        k7 = ap (λ (x : Stated). x.k7) e;
        k8 = ap (λ (x : Stated). x.k8) e;
        k9 = ap (λ (x : Stated). x.k9) e;
        k10 = ap (λ (x : Stated). x.k10) e;
        working = working;
        possible = possible;
        outside_use = outside;
      }

  -- Where all their bytes are the same, and stand for the same hours.
  module _ (field : SameFields (producer_width l) t (producer_at l' p) s (producer_at l p)) (same : hour_series l' ≡ hour_series l) where
    powers_same : (of : HourSeries → Series) → Spans l.header (of (hour_series l))
        → SamePowers (of (hour_series l)) (of (hour_series l'))
    unfolding hours_at power
    powers_same of spans i b =
        let x = of (hour_series l) in
        let k = x.start + x.step * i in
        rw (ap of same, add_assoc (producer_at l' p) 42 k, add_assoc (producer_at l p) 42 k)
        (field 4 (42 + k) (omega (arith, span_ends l.header x spans i b)))

    pub producer_same : SameProducer (hours l.header) (producer_under l s p) (producer_under l' t p)
    producer_same =
        let spans = series_span l in
        producer_alike (λ w k b. field w k (omega arith))
        (powers_same (λ x. x.working) spans.0)
        (powers_same (λ x. x.possible) spans.1)
        (powers_same (λ x. x.outside) spans.2)

-- Records one after the other, each the same.
pub joined_same : (f g : ℕ → List ℕ) (n : ℕ) → ((i : ℕ) → i < n → f i ≡ g i) → joined f n ≡ joined g n
unfolding joined
joined_same f g zero h = refl
joined_same f g (suc n) h = rw (joined_same f g n (λ i l. h i (omega arith)), h n (omega arith))

alike_worse : (m m' : Month) → Alike m m' → Worse m m'
alike_worse m m' a =
    record {
      producer = λ p l. same_worse (a.producer p l);
      row = a.row;
      consumer =
          λ c l.
          rw (a.consumer c l)
          (record { contract = refl; peak = le_of_eq refl; supplier = le_of_eq refl; grid = le_of_eq refl; z = le_of_eq refl; price = refl });
    }

alike_attested : (m m' : Month) → Alike m m' → MoreRowsKeepAttested m m'
alike_attested m m' a p l more = (a.producer p l).attested

alike_back : (m m' : Month) → Alike m m' → Alike m' m
alike_back m m' a =
    record {
      header = sym a.header;
      producer = λ p l. rw a.header (same_back (a.producer p (rw (sym a.header) l)));
      row = λ j l. sym (a.row j (rw (sym a.header) l));
      consumer = λ c l. sym (a.consumer c (rw (sym a.header) l));
    }

-- What one keeps to, the other keeps to.
pub alike_limits : (m m' : Month) → Alike m m' → MonthLimits m → MonthLimits m'
alike_limits m m' a w =
    record {
      header = rw a.header w.header;
      producer = λ p l. rw a.header (same_limits (a.producer p (rw (sym a.header) l)) (w.producer p (rw (sym a.header) l)));
      row = λ j l. rw (a.header, a.row j (rw (sym a.header) l)) (w.row j (rw (sym a.header) l));
      consumer =
          λ c l. rw (a.header, a.consumer c (rw (sym a.header) l)) (w.consumer c (rw (sym a.header) l));
    }

module _ (m m' : Month) (a : Alike m m') (w : MonthLimits m) where
  w' : MonthLimits m'
  w' = alike_limits m m' a w

  down : Worse m m'
  down = alike_worse m m' a

  up : Worse m' m
  up = alike_worse m' m (alike_back m m' a)

  kept : MoreRowsKeepAttested m m'
  kept = alike_attested m m' a

  kept' : MoreRowsKeepAttested m' m
  kept' = alike_attested m' m (alike_back m m' a)

  there : {n n' : ℕ} → n' ≡ n → {j : ℕ} → j < n → j < n'
  there e l = rw e l

  rows' : m'.header.rows ≡ m.header.rows
  rows' = ap (λ (h : Header). h.rows) a.header

  consumers' : m'.header.consumers ≡ m.header.consumers
  consumers' = ap (λ (h : Header). h.consumers) a.header

  same_cut : (j : ℕ) → j < m.header.rows → after_cut m' j ≡ after_cut m j
  same_cut j l =
      le_antisymm (Rows.cut_down m m' a.header j l (down.producer _ (w.row j l).producer) (Months.own_rows_same down _))
      (Rows.cut_down m' m (sym a.header) j (there rows' l) (up.producer _ (w'.row j (there rows' l)).producer) (Months.own_rows_same up _))

  same_row : (j : ℕ) → j < m.header.rows → row_figures m' j ≡ row_figures m j
  same_row j l =
      let ea : actual m' j ≡ actual m j = le_antisymm (Months.actual_down m m' a.header w down kept j l) (Months.actual_down m' m (sym a.header) w' up kept' j (there rows' l)) in
      let ep : payment m' j ≡ payment m j = le_antisymm (Months.payment_down m m' a.header w down kept j l) (Months.payment_down m' m (sym a.header) w' up kept' j (there rows' l)) in
      rw (same_cut j l, ea, ep)

  same_credit : (c : ℕ) → credit m' c ≡ credit m c
  same_credit c = le_antisymm (Months.credit_down m m' a.header w down kept c) (Months.credit_down m' m (sym a.header) w' up kept' c)

  same_consumer : (c : ℕ) → c < m.header.consumers → consumer_figures m' c ≡ consumer_figures m c
  unfolding charge volume band percent counted_peak
  same_consumer c l = rw (same_credit c, a.consumer c l, a.header)

  same_totals : total_figures m' ≡ total_figures m
  same_totals =
      let paid : total_paid m' ≡ total_paid m = le_antisymm (Months.paid_down m m' a.header w down kept) (Months.paid_down m' m (sym a.header) w' up kept') in
      let charged : total_charged m' ≡ total_charged m = le_antisymm (Months.charged_up m' m (sym a.header) w' up kept') (Months.charged_up m m' a.header w down kept) in
      rw (paid, charged)

  row_bytes_same : (j : ℕ) → j < m.header.rows → row_record m' j ≡ row_record m j
  unfolding row_record
  row_bytes_same j l = ap (λ (f : RowFigures). laid (row_fields f)) (same_row j l)

  consumer_bytes_same : (c : ℕ) → c < m.header.consumers → consumer_record m' c ≡ consumer_record m c
  unfolding consumer_record
  consumer_bytes_same c l = ap (λ (f : ConsumerFigures). laid (consumer_fields f)) (same_consumer c l)

  -- Byte for byte.
  pub alike_result : result_of m' ≡ result_of m
  unfolding result_of
  alike_result =
      beside
      (beside
      (beside (ap (λ (h : Header). laid (head_fields h)) a.header)
      (ap (joined (row_record m')) rows' ∙ joined_same (row_record m') (row_record m) m.header.rows row_bytes_same))
      (ap (joined (consumer_record m')) consumers' ∙ joined_same (consumer_record m') (consumer_record m) m.header.consumers consumer_bytes_same))
      (ap (λ (f : TotalFigures). laid (total_fields f)) same_totals)
    where
      beside : {x x' y y' : List ℕ} → x' ≡ x → y' ≡ y → x' ++ y' ≡ x ++ y
      beside e f = ap₂ (λ (x y : List ℕ). x ++ y) e f
