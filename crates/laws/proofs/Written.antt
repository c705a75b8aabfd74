-- Bytes written at a place, and contract volumes written into a sheet: what is read there, and what is kept.
-- Assumes nothing.
use mathlib.Core.Path.{◌≡◌, refl, sym, ap, ◌∙◌}
use mathlib.Core.Bool.{Bool, true, false}
use mathlib.Core.List.{List, ◌++◌}
use mathlib.Core.Logic.{⊎_elim}
use Prim.Native.Nat.{ℕ, zero, suc, ◌+◌, ◌-◌, ◌^◌, ◌≤◌, ◌<◌}
use native.Mathlib.Nat.{eq-or-lt_of_le, le_of_suc-le-suc}
use native.Mathlib.Numerals.{add-one}
use native.Mathlib.Omega.{arith}
use borrow.Author.Tests.{ltb-true, ltb-false}
use lib.Dec.{ltb}
use lib.ListN.{length, get_or, take, drop, length-append, length-drop, get_or-append}
use lib.Seq.{get_or-take, get_or-drop, get_or-append-add, length-take-le}
use Rattle.rules.specs.declared.Layout.{Layout}
use Rattle.rules.specs.Fields.{big_endian, bytes_of, over, over_at}
use Rattle.rules.specs.Sheet.{consumer_at, contract_at, with_contracts}
use Rattle.laws.proofs.Fields.{length-bytes_of, same_bytes, Holds, read_held}

-- p written from a place on, where it fits.
module _ (at : ℕ) (p s : List ℕ) (fits : at + length p ≤ length s) where
  front : length (take at s) ≡ at
  front = length-take-le at s (omega arith)

  pub length-over_at : length (over_at at p s) ≡ length s
  unfolding over_at over
  length-over_at = simp (length-append, front, length-drop) (omega arith)

  -- A byte before it, a byte past it, and its own.
  before : (i : ℕ) → i < at → get_or (over_at at p s) i 0 ≡ get_or s i 0
  unfolding over_at
  before i l = get_or-append (take at s) (over p (drop at s)) 0 i (rw front l) ∙ get_or-take at s i 0 l

  from : (k : ℕ) → get_or (over_at at p s) (at + k) 0 ≡ get_or (p ++ drop (length p) (drop at s)) k 0
  unfolding over_at over
  from k = ap (λ (a : ℕ). get_or (take at s ++ (p ++ drop (length p) (drop at s))) (a + k) 0) (sym front) ∙ get_or-append-add (take at s) (p ++ drop (length p) (drop at s)) k 0

  past : (k : ℕ) → get_or (over_at at p s) (at + (length p + k)) 0 ≡ get_or s (at + (length p + k)) 0
  past k = from (length p + k) ∙ get_or-append-add p (drop (length p) (drop at s)) k 0 ∙ get_or-drop (length p) (drop at s) k 0 ∙ get_or-drop at s (length p + k) 0

  pub over_at_holds : Holds (over_at at p s) at p
  over_at_holds = record { byte = λ i l. from i ∙ get_or-append p (drop (length p) (drop at s)) 0 i l }

  -- A byte that is not within what was written is kept.
  pub over_at_keeps : (i : ℕ) → (at ≤ i → at + length p ≤ i) → get_or (over_at at p s) i 0 ≡ get_or s i 0
  over_at_keeps i outside = go (ltb i at) refl
    where
      go : (b : Bool) → ltb i at ≡ b → get_or (over_at at p s) i 0 ≡ get_or s i 0
      go true q = before i (ltb-true i at q)
      go false q =
          let l = outside (ltb-false i at q) in
          let e : at + (length p + (i - at - length p)) ≡ i = omega arith in
          rw e at (past (i - at - length p))

-- A byte of the sheet stands outside the contract volumes of the first n consumers.
abbrev pub Outside : Layout → ℕ → ℕ → Type 0
Outside l n i = (c : ℕ) → c < n → contract_at l c ≤ i → contract_at l c + 4 ≤ i

-- Contract volumes of the first n consumers, of a sheet that has them.
module _ (l : Layout) (v : ℕ → ℕ) (s : List ℕ) where
  abbrev pub Room : ℕ → Type 0
  Room n = (c : ℕ) → c < n → contract_at l c + 4 ≤ length s

  fewer : (n : ℕ) → Room (suc n) → Room n
  fewer n r c b = r c (omega arith)

  pub length-contracts : (n : ℕ) → Room n → length (with_contracts l v n s) ≡ length s
  unfolding with_contracts
  length-contracts zero r = refl
  length-contracts (suc n) r =
      let e : length (with_contracts l v n s) ≡ length s = length-contracts n (fewer n r) in
      length-over_at (contract_at l n) (bytes_of 4 (v n)) (with_contracts l v n s) (rw length-bytes_of (omega (arith, r n (omega arith)))) ∙ e

  fits : (n : ℕ) → Room (suc n)
      → contract_at l n + length (bytes_of 4 (v n)) ≤ length (with_contracts l v n s)
  fits n r = rw length-bytes_of (omega (arith, r n (omega arith), length-contracts n (fewer n r)))

  pub contracts_keep : (n : ℕ) → Room n → (i : ℕ) → Outside l n i
      → get_or (with_contracts l v n s) i 0 ≡ get_or s i 0
  unfolding with_contracts
  contracts_keep zero r i o = refl
  contracts_keep (suc n) r i o =
      over_at_keeps (contract_at l n) (bytes_of 4 (v n)) (with_contracts l v n s) (fits n r) i (λ b. rw length-bytes_of (o n (omega arith) b))
      ∙ contracts_keep n (fewer n r) i (λ c b. o c (omega arith))

  -- The last contract volume is read where it was written, and leaves the others.
  own_read : (n : ℕ) → Room (suc n) → v n < 256 ^ 4
      → big_endian 4 (with_contracts l v (suc n) s) (contract_at l n) ≡ v n
  unfolding with_contracts
  own_read n r f =
      read_held 4 (over_at (contract_at l n) (bytes_of 4 (v n)) (with_contracts l v n s)) (contract_at l n) (v n) f
      (over_at_holds (contract_at l n) (bytes_of 4 (v n)) (with_contracts l v n s) (fits n r))

  apart : (c n i : ℕ) → c < n → i < 4 → contract_at l n ≤ contract_at l c + i
      → contract_at l n + 4 ≤ contract_at l c + i
  unfolding consumer_at
  apart c n i b d e = omega arith

  other_read : (n : ℕ) → Room (suc n) → (c : ℕ) → c < n
      → big_endian 4 (with_contracts l v (suc n) s) (contract_at l c) ≡ big_endian 4 (with_contracts l v n s) (contract_at l c)
  unfolding with_contracts
  other_read n r c b =
      same_bytes 4 (over_at (contract_at l n) (bytes_of 4 (v n)) (with_contracts l v n s)) (with_contracts l v n s) (contract_at l c) (contract_at l c)
      (λ i d. over_at_keeps (contract_at l n) (bytes_of 4 (v n)) (with_contracts l v n s) (fits n r) (contract_at l c + i) (λ e. rw length-bytes_of (apart c n i b d e)))

  pub contract_read : (n : ℕ) → Room n → (c : ℕ) → c < n → v c < 256 ^ 4
      → big_endian 4 (with_contracts l v n s) (contract_at l c) ≡ v c
  contract_read zero r c b f = absurd (omega arith)
  contract_read (suc n) r c b f =
      ⊎_elim
      (λ (q : c ≡ n). rw q (own_read n r (rw q at f)))
      (λ (q : c < n). other_read n r c q ∙ contract_read n (fewer n r) c q f)
      (eq-or-lt_of_le (le_of_suc-le-suc b))

-- One consumer more.
pub contracts_more : (l : Layout) (v : ℕ → ℕ) (s : List ℕ) (n : ℕ)
    → with_contracts l v (n + 1) s ≡ over_at (contract_at l n) (bytes_of 4 (v n)) (with_contracts l v n s)
unfolding with_contracts
contracts_more l v s n = rw add-one

-- What is written goes by the first n volumes alone.
pub contracts_same : (l : Layout) (v w : ℕ → ℕ) (s : List ℕ) (n : ℕ) → ((c : ℕ) → c < n → v c ≡ w c)
    → with_contracts l v n s ≡ with_contracts l w n s
unfolding with_contracts
contracts_same l v w s zero e = refl
contracts_same l v w s (suc n) e = rw (e n (omega arith), contracts_same l v w s n (λ c b. e c (omega arith)))
