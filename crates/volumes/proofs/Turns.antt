-- The volumes of the rows so far, in an array of six, and one row more. Assumes nothing.
use mathlib.Core.Path.{◌≡◌, refl, sym, ap}
use mathlib.Core.Bool.{◌&&◌}
use mathlib.Core.List.{List}
use Prim.Native.Nat.{ℕ, ◌+◌, ◌*◌, ◌≤◌, ◌<◌}
use native.Mathlib.Nat.{add-zero}
use native.Mathlib.Omega.{arith}
use borrow.Author.Tests.{eq-eqb, ne_eqb, le-ltb, lt-ltb}
use lib.ListN.{length, get_or, set, replicate}
use Rattle.rules.specs.declared.Row.{Row}
use Rattle.rules.specs.Range.{sum, when}
use Rattle.rules.specs.Month.{Month}
use Rattle.rules.specs.declared.Layout.{Layout}
use Rattle.rules.specs.Sheet.{sheet_length, month_under}
use Rattle.rules.specs.Cut.{owns, support, bilateral, sold, own_support, own_bilateral}
use Rattle.laws.proofs.Range.{sum_none, sum_more, when-le}
use Rattle.laws.proofs.Arrays.{Agrees, agrees_as, agrees_filled, Agrees-set}
use Rattle.volumes.specs.declared.Volumes.{Volumes}
use Rattle.units.specs.Sums.{tenths}
use Rattle.volumes.specs.Volumes.{Fits, no_volumes, volumes_of, volumes_in, with_row}

-- What row j adds to the count of producer p's rows.
abbrev own_row : Month → ℕ → ℕ → ℕ
own_row m p j = when (owns m p j) 1

-- T, B and the count of rows over the first j rows.
abbrev up_to : Month → ℕ → ℕ → Volumes
up_to m p j =
    record {
      support = tenths (sum (own_support m (sold m) p) j);
      bilateral = tenths (sum (own_bilateral m (sold m) p) j);
      rows = sum (own_row m p) j;
    }

-- Six producers' volumes over the first j rows, and that they fit.
pub record Counted (m : Month) (j : ℕ) (of : List Volumes) : Type 0 where
  pub agrees : Agrees 6 no_volumes (λ p. up_to m p j) of
  pub fits : (p : ℕ) → (sum (own_support m (sold m) p) j ≤ 4294967295 * j)
      × (sum (own_bilateral m (sold m) p) j ≤ 4294967295 * j)
  pub few : (p : ℕ) → sum (own_row m p) j ≤ j

pub counted_fits : {m : Month} {j : ℕ} {of : List Volumes} → Counted m j of → j ≤ 255 → (p : ℕ) → p < 6
    → Fits (get_or of p no_volumes)
counted_fits k few p l = rw (k.agrees.each p l) (omega (arith, (k.fits p).0), omega (arith, (k.fits p).1))

-- A row more can be counted.
pub counted_few : {m : Month} {j : ℕ} {of : List Volumes} → Counted m j of → j < 255 → (p : ℕ) → p < 6
    → (get_or of p no_volumes).rows < 255
counted_few k less p l = rw (k.agrees.each p l) (omega (arith, k.few p))

pub counted_none : (m : Month) → Counted m 0 (replicate 6 no_volumes)
counted_none m =
    record {
      agrees = agrees_filled 6 no_volumes no_volumes (λ p l. rw (sum_none (own_support m (sold m) p), sum_none (own_bilateral m (sold m) p), sum_none (own_row m p)));
      fits = λ p. (omega (arith, sum_none (own_support m (sold m) p)), omega (arith, sum_none (own_bilateral m (sold m) p)));
      few = λ p. omega (arith, sum_none (own_row m p));
    }

module _ (m : Month) (j : ℕ) {r : Row} (is : r ≡ m.row j) where
  -- A producer's own row counts, another's does not.
  own_more : (p : ℕ) → r.producer ≡ p → with_row (up_to m p j) r ≡ up_to m p (j + 1)
  unfolding with_row own_support own_bilateral owns support bilateral when
  own_more p e =
      let volume : sold m j ≡ r.volume = ap (λ (x : Row). x.volume) (sym is) in
      rw (
        sum_more (own_support m (sold m) p) j,
        sum_more (own_bilateral m (sold m) p) j,
        sum_more (own_row m p) j,
        volume,
        ← is,
        eq-eqb r.producer p e,
      )

  other_same : (p : ℕ) → (r.producer ≡ p → ⊥) → up_to m p j ≡ up_to m p (j + 1)
  unfolding own_support own_bilateral owns when
  other_same p n =
      rw (
        sum_more (own_support m (sold m) p) j,
        sum_more (own_bilateral m (sold m) p) j,
        sum_more (own_row m p) j,
        ← is,
        ne_eqb r.producer p n,
        add-zero (sum (own_support m (sold m) p) j),
        add-zero (sum (own_bilateral m (sold m) p) j),
        add-zero (sum (own_row m p) j),
      )

  module _ (small : r.volume ≤ 4294967295) (of : List Volumes) (k : Counted m j of) where
    fits_more : (p : ℕ) → (sum (own_support m (sold m) p) (j + 1) ≤ 4294967295 * (j + 1))
        × (sum (own_bilateral m (sold m) p) (j + 1) ≤ 4294967295 * (j + 1))
    unfolding own_support own_bilateral
    fits_more p =
        let v = ap (λ (x : Row). x.volume) is in (
          omega (
            arith,
            sum_more (own_support m (sold m) p) j,
            when-le (owns m p j && support m j) (m.row j).volume,
            (k.fits p).0,
            v,
          ),
          omega (
            arith,
            sum_more (own_bilateral m (sold m) p) j,
            when-le (owns m p j && bilateral m j) (m.row j).volume,
            (k.fits p).1,
            v,
          ),
        )

    few_more : (p : ℕ) → sum (own_row m p) (j + 1) ≤ j + 1
    few_more p = omega (arith, sum_more (own_row m p) j, when-le (owns m p j) 1, k.few p)

    pub counted_other : 6 ≤ r.producer → Counted m (j + 1) of
    counted_other past = record {
      agrees = agrees_as 6 no_volumes (λ p l. other_same p (λ e. omega arith)) k.agrees;
      fits = fits_more;
      few = few_more;
    }

    pub counted_own : r.producer < 6
        → Counted m (j + 1) (set of r.producer (with_row (get_or of r.producer no_volumes) r))
    counted_own below =
        record {
          agrees =
              Agrees-set 6 no_volumes r.producer below (rw (k.agrees.each r.producer below) (own_more r.producer refl))
              (λ p l n. other_same p (λ e. n (sym e))) k.agrees;
          fits = fits_more;
          few = few_more;
        }

-- In a whole sheet the volumes are the month's; in another there are none.
module _ (l : Layout) (s : List ℕ) where
  pub volumes_whole : sheet_length l ≤ length s → (p : ℕ) → volumes_in l s p ≡ volumes_of (month_under l s) p
  unfolding volumes_in
  volumes_whole h p = rw (le-ltb (length s) (sheet_length l) h)

  pub volumes_short : length s < sheet_length l → (p : ℕ) → no_volumes ≡ volumes_in l s p
  unfolding volumes_in
  volumes_short h p = rw (lt-ltb (length s) (sheet_length l) h)
