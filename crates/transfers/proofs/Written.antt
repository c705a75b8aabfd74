-- A sheet's contract volumes, put one by one. Assumes nothing.
use Rattle.std.proofs.Common.{◌≡◌, ℕ, ◌+◌, ◌≤◌, ◌<◌, List, length, sym, ◌∙◌, arith}
use Rattle.rules.specs.declared.Layout.{Layout}
use Rattle.rules.specs.Fields.{bytes_of}
use Rattle.rules.specs.Sheet.{sheet_length, contract_at, with_contracts}
use Rattle.laws.proofs.Fields.{length-bytes_of}
use Rattle.laws.proofs.Sheet.{consumer_inside}
use Rattle.laws.proofs.Written.{Room, length-contracts, contracts_more}
use Rattle.writing.specs.Placed.{placed_at}
use Rattle.writing.proofs.Placing.{placed_at_over}

-- In a sheet that has a layout's records the volume of its consumer n is put behind those of the first n.
module _ (l : Layout) (v : ℕ → ℕ) (s : List ℕ) (whole : sheet_length l ≤ length s) where
  room : (n : ℕ) → n ≤ l.header.consumers → Room l v s n
  room n few c b = omega (arith, consumer_inside l c (omega arith))

  pub contract_put : (n : ℕ) → n < l.header.consumers → {t : List ℕ} → t ≡ with_contracts l v n s
      → {at : ℕ} → at ≡ contract_at l n → {bytes : List ℕ} → bytes ≡ bytes_of 4 (v n)
      → {new : List ℕ} → new ≡ placed_at at bytes t → new ≡ with_contracts l v (n + 1) s
  contract_put n b e p f g =
      let here : contract_at l n + 4 ≤ length s = room (n + 1) (omega arith) n (omega arith) in
      let wide = length-contracts l v s n (room n (omega arith)) in
      g
      ∙ rw (e, p, f)
      (placed_at_over (contract_at l n) (bytes_of 4 (v n)) (with_contracts l v n s)
      (rw (length-bytes_of, wide) here))
      ∙ sym (contracts_more l v s n)
