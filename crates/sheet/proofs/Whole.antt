-- Records that are whole in the sheet, and records that are not. Assumes nothing.
use mathlib.Core.Path.{◌≡◌}
use mathlib.Core.List.{List}
use Prim.Native.Nat.{ℕ, ◌+◌, ◌≤◌, ◌<◌}
use native.Mathlib.Nat.{le_trans}
use native.Mathlib.Omega.{arith}
use borrow.Author.Tests.{le-ltb, lt-ltb}
use lib.ListN.{length, length-take, length-drop}
use Rattle.rules.specs.declared.Layout.{Layout}
use Rattle.rules.specs.Sheet.{
  stated_width,
  hours_width,
  row_width,
  consumer_width,
  producer_at,
  hours_at,
  row_at,
  consumer_at,
  sheet_length,
  stated_of,
  row_of,
  consumer_of,
}
use Rattle.rules.specs.Outcome.{within}
use Rattle.laws.proofs.Sheet.{hours_inside, row_inside, consumer_inside}
use Rattle.sheet.specs.Whole.{none_stated, no_row, no_consumer, stated_in, stretch_in, row_in, consumer_in}

module _ (l : Layout) (s : List ℕ) (p : ℕ) where
  pub stated_whole : producer_at l p + stated_width ≤ length s
      → stated_in l s p ≡ stated_of s (producer_at l p)
  unfolding stated_in
  stated_whole h = rw (le-ltb (length s) (producer_at l p + stated_width) h)

  pub stated_short : length s < producer_at l p + stated_width → stated_in l s p ≡ none_stated
  unfolding stated_in
  stated_short h = rw (lt-ltb (length s) (producer_at l p + stated_width) h)

  pub stretch_whole : hours_at l p + hours_width l.header ≤ length s
      → stretch_in l (length s) p ≡ record { place = hours_at l p; bytes = hours_width l.header }
  unfolding stretch_in
  stretch_whole h = rw (le-ltb (length s) (hours_at l p + hours_width l.header) h)

  pub stretch_short : length s < hours_at l p + hours_width l.header
      → stretch_in l (length s) p ≡ record { place = 0; bytes = 0 }
  unfolding stretch_in
  stretch_short h = rw (lt-ltb (length s) (hours_at l p + hours_width l.header) h)

  -- In a whole sheet every producer below P is whole, with its hours.
  module _ (whole : sheet_length l ≤ length s) (b : p < l.header.producers) where
    inside : hours_at l p + hours_width l.header ≤ length s
    inside = le_trans (hours_inside l p b) whole

    pub stated_there : stated_in l s p ≡ stated_of s (producer_at l p)
    unfolding hours_at
    stated_there = stated_whole (omega (arith, inside))

    pub stretch_there : {part : List ℕ} → part ≡ within (stretch_in l (length s) p) s
        → (hours_at l p + hours_width l.header ≤ length s) × (length part ≡ hours_width l.header)
    unfolding within
    stretch_there lent =
        (inside, rw (lent, stretch_whole inside) (simp (length-take, length-drop) (omega (arith, inside))))

module _ (l : Layout) (s : List ℕ) (j : ℕ) where
  pub row_whole : row_at l j + row_width l ≤ length s → row_in l s j ≡ row_of l s (row_at l j)
  unfolding row_in
  row_whole h = rw (le-ltb (length s) (row_at l j + row_width l) h)

  pub row_short : length s < row_at l j + row_width l → row_in l s j ≡ no_row
  unfolding row_in
  row_short h = rw (lt-ltb (length s) (row_at l j + row_width l) h)

  pub consumer_whole : consumer_at l j + consumer_width l ≤ length s
      → consumer_in l s j ≡ consumer_of s (consumer_at l j)
  unfolding consumer_in
  consumer_whole h = rw (le-ltb (length s) (consumer_at l j + consumer_width l) h)

  pub consumer_short : length s < consumer_at l j + consumer_width l → consumer_in l s j ≡ no_consumer
  unfolding consumer_in
  consumer_short h = rw (lt-ltb (length s) (consumer_at l j + consumer_width l) h)

  -- In a whole sheet every row below R and every consumer below C is whole.
  module _ (whole : sheet_length l ≤ length s) where
    pub row_there : j < l.header.rows → row_in l s j ≡ row_of l s (row_at l j)
    row_there b = row_whole (le_trans (row_inside l j b) whole)

    pub consumer_there : j < l.header.consumers → consumer_in l s j ≡ consumer_of s (consumer_at l j)
    consumer_there b = consumer_whole (le_trans (consumer_inside l j b) whole)
