-- The volumes of a producer's rows, as the struct that carries them.
use Rattle.std.specs.Prelude.{ℕ, ◌+◌, ◌≤◌, not, cond, List, length, eqb, ltb}
use Rattle.rules.specs.declared.Layout.{Layout}
use Rattle.rules.specs.declared.Row.{Row}
use Rattle.rules.specs.Range.{when}
use Rattle.rules.specs.Month.{Month}
use Rattle.rules.specs.Sheet.{sheet_length, month_under}
use Rattle.rules.specs.Cut.{sold, support_volume, bilateral_volume, row_count}
use Rattle.units.specs.Sums.{tenths}
use Rattle.volumes.specs.declared.Volumes.{Volumes}

-- What a producer's rows of one kind come to at most, whatever the bytes: 255 rows of the largest volume that
-- four bytes hold.
abbrev pub most_volume : ℕ
most_volume = 1095216660225

-- T and B are no more than that.
abbrev pub Fits : Volumes → Type 0
Fits v = (v.support.0 ≤ most_volume) × (v.bilateral.0 ≤ most_volume)

-- T and B of the volumes that the sheet has, and the count of rows.
abbrev pub volumes_of : Month → ℕ → Volumes
volumes_of m p =
    record {
      support = tenths (support_volume m (sold m) p);
      bilateral = tenths (bilateral_volume m (sold m) p);
      rows =
          row_count m p;
    }

-- Before the first row, and past the end of an array.
abbrev pub no_volumes : Volumes
no_volumes = record { support = tenths 0; bilateral = tenths 0; rows = 0 }

-- The same in a sheet; none where it ends before its length under the layout.
unfoldable pub volumes_in : Layout → List ℕ → ℕ → Volumes
volumes_in l s p = cond (ltb (length s) (sheet_length l)) no_volumes (volumes_of (month_under l s) p)

-- With a row of the producer more.
unfoldable pub with_row : Volumes → Row → Volumes
with_row v r =
    record {
      support = tenths (v.support.0 + when (eqb r.consumer 255) r.volume);
      bilateral = tenths (v.bilateral.0 + when (not (eqb r.consumer 255)) r.volume);
      rows = v.rows + 1;
    }
