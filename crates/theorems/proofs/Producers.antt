-- A worse producer has no higher coefficient, with the same T and S; no smaller penalty; and with no larger
-- S, no more met. Assumes nothing.
use mathlib.Core.Path.{◌≡◌, refl, sym, ap}
use mathlib.Core.List.{List, [], ◌∷◌}
use Prim.Native.Nat.{ℕ, zero, suc, zero-le, ◌≤◌, ◌<◌}
use native.Mathlib.Nat.{le_refl, not-suc-le-zero, mul-le-mul, mul-le-mul_left, mul-le-mul_right}
use native.Mathlib.Omega.{arith}
use Rattle.rules.specs.Range.{sum}
use Rattle.rules.specs.Units.{one, hundredth, in_hundredths, in_thousandths}
use Rattle.rules.specs.declared.Header.{Header}
use Rattle.rules.specs.Month.{Producer, hours}
use Rattle.rules.specs.ControlHours.{
  control_hour,
  counted,
  control_sum,
  control_count,
  average,
  control_average,
}
use Rattle.rules.specs.Coefficients.{
  share,
  millionths_of,
  overuse,
  penalty,
  less_penalty,
  exact_k1,
  k1,
  k2,
  asked,
  met,
  met_over,
  exact_k4,
  k4,
  k5,
  from_k5,
  in_order,
  others,
}
use Rattle.laws.proofs.Range.{sum_mono, sum_same, when_mono}
use Rattle.laws.proofs.Units.{rounded_mono}
use Rattle.theorems.specs.Demand3.{WorseProducer}
use Rattle.theorems.proofs.Bands.{band_mono, thousandths_mono}

-- A larger part of the same whole has no smaller share; a larger penalty leaves no more; more met of what is
-- asked is no smaller part.
share_mono : (whole : ℕ) {part part' : ℕ} → part ≤ part' → share part whole ≤ share part' whole
unfolding share
share_mono whole h = rounded_mono whole (mul-le-mul_right one h)

penalty_down : (T x y : ℕ) → x ≤ y → millionths_of (less_penalty T y) ≤ millionths_of (less_penalty T x)
unfolding millionths_of less_penalty
penalty_down zero zero zero h = le_refl (share 1 1)
penalty_down zero zero (suc y) h = share_mono 1 zero-le
penalty_down zero (suc x) zero h = absurd (not-suc-le-zero h)
penalty_down zero (suc x) (suc y) h = le_refl (share 0 1)
penalty_down (suc T) x y h = share_mono (in_thousandths (suc T)) (omega arith)

met_mono : (asked : ℕ) {x y : ℕ} → x ≤ y → millionths_of (met_over x asked) ≤ millionths_of (met_over y asked)
unfolding millionths_of met_over
met_mono zero h = le_refl (share 1 1)
met_mono (suc asked) h = share_mono (suc asked) h

average_mono : (n : ℕ) {x y : ℕ} → x ≤ y → average x n ≤ average y n
unfolding average
average_mono zero h = zero-le
average_mono (suc n) h = rounded_mono (suc n) h

-- A series that is nowhere lower has no lower control average, whatever it is rounded to.
pub control_average_mono : (fineness : ℕ) (h : Header) (f g : ℕ → ℕ) → ((i : ℕ) → i < hours h → f i ≤ g i)
    → control_average fineness h f ≤ control_average fineness h g
unfolding control_average
control_average_mono fineness h f g up = average_mono (control_count h) (mul-le-mul_left fineness sums_up)
  where
    sums_up : control_sum h f ≤ control_sum h g
    sums_up = unfold control_sum counted in sum_mono _ _ refl (λ i l. when_mono (control_hour h i) (up i l))

-- One list of coefficients is nowhere above another.
pub data NoMore : List ℕ → List ℕ → Type 0 where
  end : NoMore [] []
  each : {k l : ℕ} {ks ls : List ℕ} → k ≤ l → NoMore ks ls → NoMore (k ∷ ks) (l ∷ ls)

module _ (h : Header) (p p' : Producer) (w : WorseProducer (hours h) p p') where
  pub penalty_up : penalty h p ≤ penalty h p'
  unfolding penalty
  penalty_up =
      mul-le-mul (band_mono (thousandths_mono (ap in_hundredths (sym w.deductible)) overuse_up)) overuse_up
    where
      overuse_up : overuse h p ≤ overuse h p'
      overuse_up = unfold overuse in omega (arith, ap in_hundredths w.deductible, control_average_mono hundredth h p.outside_use p'.outside_use w.outside_use)

  -- What is asked of both is the same, and what is met no more, where S is no larger.
  pub asked_same : (S : ℕ) → sum (asked p' S) (hours h) ≡ sum (asked p S) (hours h)
  unfolding asked
  asked_same S = sum_same _ _ refl (λ i l. omega (arith, w.possible i l))

  pub met_down : {S S' : ℕ} → S' ≤ S → sum (met p' S') (hours h) ≤ sum (met p S) (hours h)
  unfolding met asked
  met_down s = sum_mono _ _ refl (λ i l. omega (arith, s, w.possible i l, w.working i l))

  k1_down : (T : ℕ) → k1 h p' T ≤ k1 h p T
  unfolding k1 exact_k1
  k1_down T = penalty_down T _ _ penalty_up

  k2_down : k2 h p' ≤ k2 h p
  unfolding k2
  k2_down = share_mono (hours h) (omega (arith, w.no_upward_bid, w.no_downward_bid))

  k4_down : (S : ℕ) → k4 h p' S ≤ k4 h p S
  unfolding k4 exact_k4
  k4_down S = rw (asked_same S) (met_mono _ (met_down (le_refl S)))

  k5_down : k5 h p' ≤ k5 h p
  unfolding k5
  k5_down = share_mono (hours h) (omega (arith, w.no_plan))

  from_k5_down : NoMore (from_k5 h p') (from_k5 h p)
  unfolding from_k5
  from_k5_down = each k5_down (each w.k6 (each w.k7 (each w.k8 (each w.k9 (each w.k10 end)))))

  none_up : (T S : ℕ) → NoMore (in_order h p' T S) (in_order h p T S)
  unfolding in_order
  none_up T S = each (k1_down T) (each k2_down (each w.k3 (each (k4_down S) from_k5_down)))

  no_other_up : NoMore (others h p') (others h p)
  unfolding others
  no_other_up = each k2_down (each w.k3 from_k5_down)

-- The header, T and S may be two names of one.
pub in_order_down : {h h' : Header} {p p' : Producer} {T T' S S' : ℕ} → h' ≡ h → T' ≡ T → S' ≡ S
    → WorseProducer (hours h) p p' → NoMore (in_order h' p' T' S') (in_order h p T S)
in_order_down {h} {p = p} {p' = p'} {T = T} {S = S} eh e_t e_s w = rw (eh, e_t, e_s) (none_up h p p' w T S)

pub others_down : {h h' : Header} {p p' : Producer} → h' ≡ h → WorseProducer (hours h) p p'
    → NoMore (others h' p') (others h p)
others_down {h} {p = p} {p' = p'} eh w = rw eh (no_other_up h p p' w)

-- A producer with less attested capacity, and all else the same, is worse.
abbrev with_attested : Producer → ℕ → Producer
with_attested p attested =
    record {
      attested = attested;
      deductible = p.deductible;
      own_needs = p.own_needs;
      no_upward_bid = p.no_upward_bid;
      no_downward_bid = p.no_downward_bid;
      no_plan = p.no_plan;
      k3 = p.k3;
      k6 = p.k6;
      k7 = p.k7;
      k8 = p.k8;
      k9 = p.k9;
      k10 = p.k10;
      working = p.working;
      possible = p.possible;
      outside_use = p.outside_use;
    }

pub less_attested : {n : ℕ} (p : Producer) (attested : ℕ) → attested ≤ p.attested
    → WorseProducer n p (with_attested p attested)
less_attested p attested l =
    record {
      attested = l;
      deductible = refl;
      own_needs = refl;
      no_upward_bid = le_refl _;
      no_downward_bid = le_refl _;
      no_plan = le_refl _;
      k3 = le_refl _;
      k6 = le_refl _;
      k7 = le_refl _;
      k8 = le_refl _;
      k9 = le_refl _;
      k10 = le_refl _;
      working = λ i b. le_refl _;
      possible = λ i b. refl;
      outside_use = λ i b. le_refl _;
    }
