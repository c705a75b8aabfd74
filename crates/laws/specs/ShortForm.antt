-- The fraction of a producer's single row in its short form, which stays within 64 bits: the row's volume is
-- T where it is a support row, and T is 0 where it is a bilateral one. (in_short_same, in proofs/Rows, shows
-- that it is the definitions' fraction.) [Requests, 8]
use Rattle.std.specs.Prelude.{ℕ, zero, suc, ◌+◌, ◌-◌, ◌*◌, Bool, true, false}
use Rattle.rules.specs.declared.Ratio.{Ratio}
use Rattle.rules.specs.Units.{rounded, in_thousandths}
use Rattle.rules.specs.Month.{Month}
use Rattle.rules.specs.Cut.{sold, support_volume, bilateral_volume, excess}

-- What the cut leaves in all of producer p's rows: T + B less the excess. Of a single row it is the volume
-- after the cut (single-after, in proofs/Cut).
abbrev pub left_after_cut : Month → ℕ → ℕ
left_after_cut m p = support_volume m (sold m) p + bilateral_volume m (sold m) p - excess m p

-- The volume × k1, in thousandths: of a support row the volume less n × D; of a bilateral one the volume
-- where n × D is 0, otherwise nothing.
unfoldable pub kept : Bool → ℕ → ℕ → ℕ
kept true volume penalty = in_thousandths volume - penalty
kept false volume zero = in_thousandths volume
kept false volume (suc penalty) = 0

-- That × k4, in millionths, rounded.
unfoldable pub in_short : ℕ → Ratio → ℕ
in_short thousandths k4 = rounded (thousandths * 1000 * k4.part) k4.whole
