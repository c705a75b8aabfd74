-- Laws of fields: what is written at a place is read there again. Assumes nothing.
use mathlib.Core.Path.{◌≡◌, refl, sym, ap, ◌∙◌}
use mathlib.Core.List.{List, [], ◌∷◌, ◌++◌, append_assoc}
use mathlib.Core.Logic.{⊎_elim}
use Prim.Native.Nat.{ℕ, zero, suc, ◌+◌, ◌*◌, ◌/◌, ◌%◌, ◌^◌, ◌≤◌, ◌<◌}
use native.Mathlib.Nat.{
  add-suc,
  mul_assoc,
  add_assoc,
  add-zero,
  zero-add,
  pow-suc,
  div-lt_iff_lt-mul,
  eq-or-lt_of_le,
  le_of_suc-le-suc,
}
use native.Mathlib.Numerals.{add-one}
use native.Mathlib.Omega.{arith}
use lib.Dec.{lit<}
use lib.ListN.{length, get_or, take, drop, length-append, get_or-append, get_or-eq_default}
use lib.Seq.{get_or_at, get_or-take, get_or-drop, get_or-append-add}
use Rattle.rules.specs.Fields.{big_endian, bytes_of, Field, laid, width_of, joined}

pub length-bytes_of : (w v : ℕ) → length (bytes_of w v) ≡ w
unfolding bytes_of
length-bytes_of zero v = refl
length-bytes_of (suc w) v =
    length-append (bytes_of w (v / 256)) (v % 256 ∷ [])
    ∙ ap (λ (n : ℕ). n + 1) (length-bytes_of w (v / 256))
    ∙ add-one w

-- Only the w bytes from a place count.
pub same_bytes : (w : ℕ) (s t : List ℕ) (a b : ℕ)
    → ((i : ℕ) → i < w → get_or s (a + i) 0 ≡ get_or t (b + i) 0) → big_endian w s a ≡ big_endian w t b
unfolding big_endian
same_bytes zero s t a b h = refl
same_bytes (suc w) s t a b h =
    let e : big_endian w s a ≡ big_endian w t b = same_bytes w s t a b (λ i l. h i (omega arith)) in
    let x : get_or s (a + w) 0 ≡ get_or t (b + w) 0 = h w (omega arith) in
    omega arith

-- Past the end there is nothing to read.
pub read_past : (w : ℕ) (s : List ℕ) (at : ℕ) → length s ≤ at → big_endian w s at ≡ 0
unfolding big_endian
read_past zero s at h = refl
read_past (suc w) s at h = omega (arith, read_past w s at h, get_or-eq_default s 0 {n = at + w} (omega arith))

-- A field of m + n bytes is one of m bytes and then one of n.
pub read_joined : (m n : ℕ) (s : List ℕ) (at : ℕ)
    → big_endian (m + n) s at ≡ big_endian m s at * 256 ^ n + big_endian n s (at + m)
unfolding big_endian
read_joined m zero s at = ap (λ (w : ℕ). big_endian w s at) (add-zero m) ∙ omega arith
read_joined m (suc n) s at =
    let e : big_endian (m + n) s at ≡ big_endian m s at * 256 ^ n + big_endian n s (at + m) = read_joined m n s at in
    rw (add-suc, ← (add_assoc at m n), pow-suc, ← (mul_assoc (big_endian m s at) (256 ^ n) 256)) (omega arith)

-- A field of a part that starts at n.
pub read_drop : (w n : ℕ) (s : List ℕ) (at : ℕ) → big_endian w (drop n s) at ≡ big_endian w s (n + at)
unfolding big_endian
read_drop zero n s at = refl
read_drop (suc w) n s at = simp (read_drop w n s at, get_or-drop, add_assoc)

-- Read in the n bytes from a place on.
pub read_part : (w n at k : ℕ) (s : List ℕ) → k + w ≤ n
    → big_endian w (take n (drop at s)) k ≡ big_endian w s (at + k)
read_part w n at k s fits =
    same_bytes w (take n (drop at s)) s k (at + k)
    (λ i l. get_or-take n (drop at s) (k + i) 0 (omega arith) ∙ get_or-drop at s (k + i) 0 ∙ ap (λ (x : ℕ). get_or s x 0) (sym (add_assoc at k i)))

-- A figure that fits its width is read again.
read_written : (w v : ℕ) (t : List ℕ) → v < 256 ^ w → big_endian w (bytes_of w v ++ t) 0 ≡ v
unfolding big_endian bytes_of
read_written zero v t h = omega arith
read_written (suc w) v t h =
    let h' : v < 256 ^ w * 256 = rw (pow-suc 256 w) at h in
    let l : v / 256 < 256 ^ w = (div-lt_iff_lt-mul (lit< tt)).1 h' in
    let e : (bytes_of w (v / 256) ++ (v % 256 ∷ [])) ++ t ≡ bytes_of w (v / 256) ++ (v % 256 ∷ t) = append_assoc (bytes_of w (v / 256)) (v % 256 ∷ []) t in
    rw e
    (let a : big_endian w (bytes_of w (v / 256) ++ (v % 256 ∷ t)) 0 ≡ v / 256 =
    read_written w (v / 256) (v % 256 ∷ t) l in
    let b : get_or (bytes_of w (v / 256) ++ (v % 256 ∷ t)) (0 + w) 0 ≡ v % 256 =
    get_or_at (bytes_of w (v / 256)) (v % 256) t 0 (0 + w) (length-bytes_of w (v / 256) ∙ sym (zero-add w)) in
    omega arith)

-- The bytes p stand in s from place at on.
pub record Holds (s : List ℕ) (at : ℕ) (p : List ℕ) : Type 0 where
  pub byte : (i : ℕ) → i < length p → get_or s (at + i) 0 ≡ get_or p i 0

pub holds_front : (p t : List ℕ) → Holds (p ++ t) 0 p
holds_front p t = record { byte = λ i l. rw zero-add (get_or-append p t 0 i l) }

pub holds_left : (s : List ℕ) (at : ℕ) (p q : List ℕ) → Holds s at (p ++ q) → Holds s at p
holds_left s at p q h =
    record { byte = λ i l. h.byte i (rw length-append (omega arith)) ∙ get_or-append p q 0 i l }

pub holds_right : (s : List ℕ) (at : ℕ) (p q : List ℕ) {k : ℕ} → at + length p ≡ k → Holds s at (p ++ q)
    → Holds s k q
holds_right s at p q e h =
    record { byte = λ i l. rw (← e, add_assoc) (h.byte (length p + i) (rw length-append (omega arith)) ∙ get_or-append-add p q i 0) }

pub read_held : (w : ℕ) (s : List ℕ) (at v : ℕ) → v < 256 ^ w → Holds s at (bytes_of w v)
    → big_endian w s at ≡ v
read_held w s at v b h =
    same_bytes w s (bytes_of w v ++ []) at 0 (λ i l. h.byte i (inside i l) ∙ sym (rw zero-add (get_or-append (bytes_of w v) [] 0 i (inside i l))))
    ∙ read_written w v [] b
  where
    inside : (i : ℕ) → i < w → i < length (bytes_of w v)
    inside i l = rw length-bytes_of l

-- Fields one after the other: their length, and that each, where it fits its width, is read where the fields
-- before it end.
pub length-laid : (fs : List Field) → length (laid fs) ≡ width_of fs
unfolding laid width_of
length-laid [] = refl
length-laid (f ∷ fs) = rw (length-append, length-bytes_of, length-laid fs)

abbrev pub Fit : List Field → Type 0
Fit [] = Unit {0}
Fit (f ∷ fs) = (f.figure < 256 ^ f.width) × Fit fs

abbrev pub Read : List ℕ → ℕ → ℕ → List Field → Type 0
Read s at k [] = Unit {0}
Read s at k (f ∷ fs) = (big_endian f.width s (at + k) ≡ f.figure) × Read s at (k + f.width) fs

read_from : (s : List ℕ) (at k : ℕ) (fs : List Field) → Fit fs → Holds s (at + k) (laid fs) → Read s at k fs
unfolding laid
read_from s at k [] fit h = tt
read_from s at k (f ∷ fs) fit h = (
  read_held f.width s (at + k) f.figure fit.0 (holds_left s (at + k) _ _ h),
  read_from s at (k + f.width) fs fit.1
      (holds_right s (at + k) (bytes_of f.width f.figure) (laid fs) (rw (length-bytes_of, add_assoc)) h),
)

pub read_laid : (s : List ℕ) (at : ℕ) (fs : List Field) → Fit fs → Holds s at (laid fs) → Read s at 0 fs
read_laid s at fs fit h = read_from s at 0 fs fit (rw add-zero h)

-- Records of one width, one after the other: record j stands at width × j.
module _ (f : ℕ → List ℕ) (width : ℕ) (each : (i : ℕ) → length (f i) ≡ width) where
  pub length-joined : (n : ℕ) → length (joined f n) ≡ width * n
  unfolding joined
  length-joined zero = omega arith
  length-joined (suc n) = rw (length-append, length-joined n, each n) (omega arith)

  pub held_record : (s : List ℕ) (at n : ℕ) → Holds s at (joined f n) → (j : ℕ) → j < n
      → Holds s (at + width * j) (f j)
  unfolding joined
  held_record s at zero h j l = absurd (omega arith)
  held_record s at (suc n) h j l =
      ⊎_elim
      (λ (q : j ≡ n). rw q (holds_right s at (joined f n) (f n) (rw (length-joined n)) h))
      (λ (k : j < n). held_record s at n (holds_left s at (joined f n) (f n) h) j k)
      (eq-or-lt_of_le (le_of_suc-le-suc l))
