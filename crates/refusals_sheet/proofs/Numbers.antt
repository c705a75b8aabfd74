-- Which list of tests a month's number comes from, what the hours add to it, and what a month without one
-- keeps to. Assumes nothing.
use mathlib.Core.Path.{◌≡◌, refl, sym, ◌∙◌}
use mathlib.Core.Bool.{Bool, true, false, cond, ◌&&◌, ◌||◌, and-false, or-false, or_assoc, or_comm}
use mathlib.Core.List.{List, [], ◌∷◌, ◌++◌}
use Prim.Native.Nat.{ℕ, ◌≤◌}
use native.Mathlib.Nat.{le_of_eq}
use native.Mathlib.Omega.{arith}
use borrow.Author.Tests.{eqb-true, ne_eqb, le-ltb}
use lib.Dec.{T, leb, ltb, eqb, leb→le}
use lib.Ieee.Fits.{and_l, and_r}
use lib.ListN.{length}
use Rattle.rules.specs.declared.Layout.{Layout}
use Rattle.rules.specs.declared.Header.{Header}
use Rattle.rules.specs.Range.{any}
use Rattle.rules.specs.Month.{Producer, Month, hours}
use Rattle.rules.specs.Sheet.{sheet_length, month_under}
use Rattle.rules.specs.Limits.{HeaderLimits, MonthLimits}
use Rattle.rules.specs.Result.{result_length}
use Rattle.rules.specs.Refusals.{one_of, bad_share, high_hour, high_producer, high_row, high_consumer}
use Rattle.rules.specs.Refusals.{bad_reference, too_dear, bad_factor, bad_days, some_producer, some_row}
use Rattle.rules.specs.Refusals.{some_consumer, Test, header_tests, room_tests, figure_tests, first_of}
use Rattle.rules.specs.Refusals.{applies}
use Rattle.laws.proofs.Range.{any_or, any_same}
use Rattle.laws.proofs.Refusals.{none_applies, first_both, not_true, header_numbered, room_numbered}
use Rattle.laws.proofs.Refusals.{room_limit, header_limits, month_limits}
use Rattle.refusals_sheet.specs.Tests.{high_figures, record_tests}
use Rattle.refusals_sheet.specs.Numbers.{month_number, record_number, high_hours, with_hours}
use Rattle.refusals_sheet.proofs.Hours.{hours_high}

module _ (layout : Layout) (bytes : ℕ) where
  -- Where none of 4 to 6 applies.
  module _ (none : first_of (header_tests layout bytes) ≡ 0) where
    within : HeaderLimits layout.header
    within =
        unfold header_tests applies in
        header_limits layout.header (none_applies (header_tests layout bytes) (header_numbered layout bytes) none 4) (none_applies (header_tests layout bytes) (header_numbered layout bytes) none 5)

    pub whole : sheet_length layout ≤ bytes
    whole = unfold header_tests applies in le_of_eq (sym (eqb-true _ _ (not_true _ (none_applies (header_tests layout bytes) (header_numbered layout bytes) none 6))))

-- The hours change nothing where the number is neither 0 nor above 9,
not_added : (number : ℕ) (high : Bool) → (eqb number 0 || ltb 9 number) ≡ false
    → number ≡ with_hours number high
unfolding with_hours
not_added number high e = rw (e, and-false)

stands : (number : ℕ) (high : Bool) → T (leb 1 number && leb number 9) → number ≡ with_hours number high
stands number high e =
    let from : 1 ≤ number = leb→le 1 number (and_l (leb 1 number) (leb number 9) e) in
    let to : number ≤ 9 = leb→le number 9 (and_r (leb 1 number) (leb number 9) e) in
    not_added number high (rw (ne_eqb number 0 (λ (q : number ≡ 0). omega arith), le-ltb 9 number to))

-- and so nothing where it comes from a list of such numbers.
abbrev early : List Test → Bool
early [] = true
early (t ∷ ts) = (leb 1 t.number && leb t.number 9) && early ts

before_hours : (xs ys zs : List Test) (high : Bool) → T (early xs)
    → (first_of xs ≡ 0 → first_of ys ≡ with_hours (first_of zs) high)
    → first_of (xs ++ ys) ≡ with_hours (first_of (xs ++ zs)) high
unfolding first_of
before_hours [] ys zs high e h = h refl
before_hours (x ∷ xs) ys zs high e h =
    go x.applies (λ k. before_hours xs ys zs high (and_r (leb 1 x.number && leb x.number 9) (early xs) e) k) h
  where
    go : (b : Bool) → ((first_of xs ≡ 0 → first_of ys ≡ with_hours (first_of zs) high) → first_of (xs ++ ys) ≡ with_hours (first_of (xs ++ zs)) high)
        → (cond b x.number (first_of xs) ≡ 0 → first_of ys ≡ with_hours (first_of zs) high)
        → cond b x.number (first_of (xs ++ ys)) ≡ with_hours (cond b x.number (first_of (xs ++ zs))) high
    go true later k = stands x.number high (and_l (leb 1 x.number && leb x.number 9) (early xs) e)
    go false later k = later k

-- Where it is 0 or above 9, a high power is 9.
nine : (a b : Bool) (number : ℕ) → (eqb number 0 || ltb 9 number) ≡ true
    → cond (a || b) 9 number ≡ with_hours (cond a 9 number) b
unfolding with_hours
nine true true number e = refl
nine true false number e = refl
nine false true number e = rw e
nine false false number e = refl

or_last : (a b c : Bool) → ((a || b) || c) ≡ ((a || c) || b)
or_last true b c = refl
or_last false b c = or_comm b c

-- 10, 11, 12 and 18: the first that applies, 0 where none does.
abbrev left : Bool → Bool → Bool → Bool → ℕ
left ten eleven twelve eighteen = cond ten 10 (cond eleven 11 (cond twelve 12 (cond eighteen 18 0)))

above : (a b c d : Bool) → (eqb (left a b c d) 0 || ltb 9 (left a b c d)) ≡ true
above true b c d = refl
above false true c d = refl
above false false true d = refl
above false false false true = refl
above false false false false = refl

-- 8, then 9, then these.
eight : (share figures in_hours others a b c d : Bool)
    → cond share 8 (cond ((figures || in_hours) || others) 9 (left a b c d)) ≡ with_hours (cond share 8 (cond (figures || others) 9 (left a b c d))) in_hours
eight true figures in_hours others a b c d = stands 8 in_hours tt
eight false figures in_hours others a b c d =
    rw (or_last figures in_hours others) (nine (figures || others) in_hours (left a b c d) (above a b c d))

-- 9, in a producer's stated figures or in its hours; and in those of some producer.
in_producer : (h : Header) (p : Producer)
    → high_producer h p ≡ (high_figures p || any (high_hour p) (hours h))
unfolding high_producer high_figures one_of
in_producer h p = simp (or-false, or_assoc)

module _ (m : Month) where
  abbrev in_hours : Bool
  in_hours = any (λ p. any (high_hour (m.producer p)) (hours m.header)) m.header.producers

  in_some : some_producer m (high_producer m.header) ≡ (some_producer m high_figures || in_hours)
  in_some = any_same _ _ _ (λ p l. in_producer m.header (m.producer p)) ∙ any_or _ _ _

  -- 8 to 12 and 18, with the hours.
  figures_with : first_of (figure_tests m) ≡ with_hours (first_of (record_tests m)) in_hours
  unfolding first_of figure_tests record_tests one_of
  figures_with =
      rw in_some
      (eight (some_producer m (bad_share m.header)) (some_producer m high_figures) in_hours
      (some_row m high_row || (some_consumer m high_consumer || false))
      (some_row m (bad_reference m.header))
      (some_row m (λ r. too_dear r.price) || (some_consumer m (λ c. too_dear c.price) || false))
      (some_consumer m (bad_factor m.header))
      (some_row m (bad_days m.header)))

-- The same of a whole sheet, whose hours are read as stretches.
pub figures_are : (layout : Layout) (s : List ℕ) → sheet_length layout ≤ length s
    → first_of (figure_tests (month_under layout s)) ≡ with_hours (first_of (record_tests (month_under layout s))) (high_hours layout s layout.header.producers)
figures_are layout s fits = rw (hours_high layout s fits) (figures_with (month_under layout s))

module _ (layout : Layout) (s : List ℕ) (room : ℕ) where
  -- A month's number is that of its records, with the hours.
  pub month_with_hours : month_number layout s room
      ≡ with_hours (record_number layout s room) (high_hours layout s layout.header.producers)
  unfolding month_number record_number header_tests room_tests
  month_with_hours =
      before_hours (header_tests layout (length s)) _ _ _ tt
      (λ none. before_hours (room_tests (result_length layout.header) room) _ _ _ tt (λ enough. figures_are layout s (whole layout (length s) none)))

  -- Where none of the records' applies: the header, the length and the room are right.
  pub record_kept : record_number layout s room ≡ 0
      → (HeaderLimits layout.header × (sheet_length layout ≤ length s)) × (result_length layout.header ≤ room)
  unfolding record_number
  record_kept none =
      let both = first_both (header_tests layout (length s)) _ (header_numbered layout (length s)) none in
      let rest = first_both (room_tests (result_length layout.header) room) _ (room_numbered (result_length layout.header) room) both.1 in (
        (within layout (length s) both.0, whole layout (length s) both.0),
        room_limit (result_length layout.header) room rest.0,
      )

  -- Where none from 4 on does.
  pub month_kept : month_number layout s room ≡ 0
      → (MonthLimits (month_under layout s) × (sheet_length layout ≤ length s)) × (result_length layout.header ≤ room)
  unfolding month_number
  month_kept none =
      let both = first_both (header_tests layout (length s)) _ (header_numbered layout (length s)) none in
      let rest = first_both (room_tests (result_length layout.header) room) (figure_tests (month_under layout s)) (room_numbered (result_length layout.header) room) both.1 in
      ((month_limits (month_under layout s) (within layout (length s) both.0) rest.1, whole layout (length s) both.0), room_limit (result_length layout.header) room rest.0)
