-- Request 4 as statements: rising band tables, and what higher peaks do to a result under the text of 2015.
-- [Requests, 4]
use Rattle.std.specs.Prelude.{ℕ, ◌≤◌, ◌<◌, ◌≡◌, Bool, true, ◌&&◌, List, [], ◌∷◌, leb, take}
use Rattle.rules.specs.declared.Band.{Band}
use Rattle.rules.specs.declared.Header.{Header}
use Rattle.rules.specs.declared.Consumer.{Consumer}
use Rattle.rules.specs.Sheet.{header_width, header_of, month_of}
use Rattle.rules.specs.Result2015.{read_2015}

-- A rising band table: no row's factor is below that of the row before it.
abbrev pub rising : List Band → Bool
rising [] = true
rising (row ∷ []) = true
rising (row ∷ next ∷ rows) = leb row.factor next.factor && rising (next ∷ rows)

-- The second consumer is the first with a higher peak, or the same one. Mining days and z, which the text of
-- 2015 does not read, may be any.
pub record HigherPeak (c c' : Consumer) : Type 0 where
  pub contract : c'.contract ≡ c.contract
  pub peak : c.peak ≤ c'.peak
  pub price : c'.price ≡ c.price

-- Two sheets with the same header, alike in their consumers but for higher peaks in the second. Producers and
-- rows may be any.
pub record HigherPeaks (s s' : List ℕ) : Type 0 where
  pub header : take header_width s' ≡ take header_width s
  pub consumer : (c : ℕ) → c < (header_of s).consumers
      → HigherPeak ((month_of s).consumer c) ((month_of s').consumer c)

-- The second result has no lower factor, volume or charge for any consumer. Each figure is the one that is
-- read from the result's bytes at its place.
pub record NoLower2015 (h : Header) (out out' : List ℕ) : Type 0 where
  pub factor : (c : ℕ) → c < h.consumers → (read_2015 out c).factor ≤ (read_2015 out' c).factor
  pub volume : (c : ℕ) → c < h.consumers → (read_2015 out c).volume ≤ (read_2015 out' c).volume
  pub charge : (c : ℕ) → c < h.consumers → (read_2015 out c).charge ≤ (read_2015 out' c).charge
