-- In every rising table a larger excess never meets a smaller factor. Assumes nothing.
use mathlib.Core.Path.{◌≡◌, refl}
use mathlib.Core.Bool.{Bool, true, false, cond}
use mathlib.Core.List.{List, [], ◌∷◌}
use Prim.Native.Nat.{ℕ, zero, suc, zero-le, ◌≤◌}
use native.Mathlib.Nat.{le_refl, le_trans, lt_of_lt_of_le, not-suc-le-zero, mul-le-mul_right}
use lib.Dec.{T, leb, leb→le}
use lib.Ieee.Fits.{and_l, and_r}
use borrow.Author.Tests.{leb-false, lt-leb}
use Rattle.rules.specs.declared.Band.{Band}
use Rattle.rules.specs.Bands.{bands, factor_of, band_of, over_nothing, parts_of, thousandths}
use Rattle.laws.proofs.Units.{rounded_mono}
use Rattle.theorems.specs.Request4.{rising}

least : (row : Band) (rows : List Band) → T (rising (row ∷ rows)) → (p : ℕ)
    → row.factor ≤ factor_of (row ∷ rows) p
unfolding factor_of
least row [] t p = le_refl row.factor
least row (next ∷ rows) t p =
    go (leb p row.edge) (least next rows (and_r (leb row.factor next.factor) (rising (next ∷ rows)) t) p)
  where
    go : (b : Bool) → next.factor ≤ factor_of (next ∷ rows) p
        → row.factor ≤ cond b row.factor (factor_of (next ∷ rows) p)
    go true h = le_refl row.factor
    go false h = le_trans (leb→le _ _ (and_l (leb row.factor next.factor) (rising (next ∷ rows)) t)) h

pub larger_excess_no_smaller_factor : (t : List Band) → T (rising t) → (p q : ℕ) → p ≤ q
    → factor_of t p ≤ factor_of t q
unfolding factor_of
larger_excess_no_smaller_factor [] t p q h = le_refl 0
larger_excess_no_smaller_factor (row ∷ []) t p q h = le_refl row.factor
larger_excess_no_smaller_factor (row ∷ next ∷ rows) t p q h =
    go (leb p row.edge) refl (larger_excess_no_smaller_factor (next ∷ rows) (and_r (leb row.factor next.factor) (rising (next ∷ rows)) t) p q h)
  where
    go : (b : Bool) → leb p row.edge ≡ b → factor_of (next ∷ rows) p ≤ factor_of (next ∷ rows) q
        → cond b row.factor (factor_of (next ∷ rows) p) ≤ factor_of (row ∷ next ∷ rows) q
    go true e i = least row (next ∷ rows) t q
    go false e i = rw (lt-leb q row.edge (lt_of_lt_of_le (leb-false p row.edge e) h)) i

-- The band table rises.
pub bands_rise : T (rising bands)
unfolding bands
bands_rise = tt

pub band_mono : {p q : ℕ} → p ≤ q → band_of p ≤ band_of q
unfolding band_of
band_mono {p} {q} h = larger_excess_no_smaller_factor bands bands_rise p q h

-- Over the same reference a larger excess never has fewer parts.
over_nothing_mono : (beyond E F : ℕ) → E ≤ F → over_nothing beyond E ≤ over_nothing beyond F
unfolding over_nothing
over_nothing_mono beyond zero F h = zero-le
over_nothing_mono beyond (suc e) zero h = absurd (not-suc-le-zero h)
over_nothing_mono beyond (suc e) (suc f) h = le_refl beyond

pub parts_mono : (beyond Q : ℕ) {E F : ℕ} → E ≤ F → parts_of beyond E Q ≤ parts_of beyond F Q
unfolding parts_of
parts_mono beyond zero {E} {F} h = over_nothing_mono beyond E F h
parts_mono beyond (suc q) h = rounded_mono (suc q) h

-- In thousandths, over a reference by one name or two.
pub thousandths_mono : {Q Q' E F : ℕ} → Q ≡ Q' → E ≤ F → thousandths E Q ≤ thousandths F Q'
unfolding thousandths
thousandths_mono {Q' = Q} e h = rw e (parts_mono 501 Q (mul-le-mul_right 1000 h))
