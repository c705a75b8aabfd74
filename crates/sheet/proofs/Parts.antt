-- A record is read from the part of the sheet that holds it. Assumes nothing.
use mathlib.Core.Path.{◌≡◌}
use mathlib.Core.List.{List}
use Prim.Native.Nat.{ℕ, ◌≤◌}
use native.Mathlib.Nat.{zero-add}
use native.Mathlib.Omega.{arith}
use lib.ListN.{take, drop}
use Rattle.rules.specs.declared.Layout.{Layout}
use Rattle.rules.specs.Sheet.{row_width, stated_of, row_of, consumer_of}
use Rattle.laws.proofs.Fields.{read_part}
use Rattle.laws.proofs.Sheet.{SameFields, stated_same, row_same, consumer_same}

module _ (s : List ℕ) (at n : ℕ) where
  in_part : (width : ℕ) → width ≤ n → SameFields width (take n (drop at s)) 0 s at
  in_part width wide w k b = rw zero-add (read_part w n at k s (omega arith))

  pub stated_in_part : 42 ≤ n → stated_of (take n (drop at s)) 0 ≡ stated_of s at
  stated_in_part wide = stated_same (take n (drop at s)) 0 s at (in_part 42 wide)

  pub row_in_part : (l : Layout) → row_width l ≤ n → row_of l (take n (drop at s)) 0 ≡ row_of l s at
  row_in_part l wide = row_same (take n (drop at s)) 0 s at l (in_part (row_width l) wide)

  pub consumer_in_part : 15 ≤ n → consumer_of (take n (drop at s)) 0 ≡ consumer_of s at
  consumer_in_part wide = consumer_same (take n (drop at s)) 0 s at (in_part 15 wide)
