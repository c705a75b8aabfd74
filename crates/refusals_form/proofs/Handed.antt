-- The stretch of a sheet with a producer's hours, as it is handed back. Assumes nothing.
use mathlib.Core.Path.{◌≡◌, refl, sym, ◌∙◌}
use mathlib.Core.List.{List, []}
use Prim.Native.Nat.{ℕ, ◌+◌, ◌≤◌, ◌<◌}
use native.Mathlib.Omega.{arith}
use lib.ListN.{length, length-take, length-drop}
use Rattle.rules.specs.declared.Layout.{Layout}
use Rattle.rules.specs.Sheet.{header_of, layout_of}
use Rattle.rules.specs.Refusals.{form_tests, first_of}
use Rattle.rules.specs.Outcome.{Stretch, hours_stretch, within}
use Rattle.laws.proofs.Refusals.{stretch_there, stretch_ends}
use Rattle.sheet.specs.Whole.{stretch_in}
use Rattle.sheet.proofs.Whole.{stretch_whole}

-- No stretch: nothing, from the sheet's start.
pub no_stretch : (s : List ℕ) (p q : ℕ) → hours_stretch s p ≡ record { place = 0; bytes = 0 }
    → ([] ≡ within (hours_stretch s p) s)
    × (q ≡ (hours_stretch s p).place + q)
    × (0 ≡ (hours_stretch s p).bytes)
unfolding within
no_stretch s p q e = rw e (refl, omega arith, refl)

length-within : (x : Stretch) (s : List ℕ) → x.place + x.bytes ≤ length s → length (within x s) ≡ x.bytes
unfolding within
length-within x s fits = simp (length-take, length-drop) (omega arith)

-- The stretch of a producer below P, found through the header.
module _ (s : List ℕ) (p : ℕ) (layout : Layout) (eh : layout ≡ layout_of s) (f : first_of (form_tests s) ≡ 0)
    (l : p < layout.header.producers) where
  below : p < (header_of s).producers
  below = rw eh at l

  pub stretch_same : stretch_in layout (length s) p ≡ hours_stretch s p
  stretch_same =
      rw eh (stretch_whole (layout_of s) s p (stretch_ends s p f below) ∙ sym (stretch_there s p f below))

  pub stretch_length : length (within (hours_stretch s p) s) ≡ (hours_stretch s p).bytes
  stretch_length =
      length-within (hours_stretch s p) s (rw (stretch_there s p f below) (stretch_ends s p f below))
