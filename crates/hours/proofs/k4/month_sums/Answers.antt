use Rattle.std.proofs.Common.{sym, ◌∙◌}
use Rattle.refusals_powers.proofs.Low.{low_high}
use Rattle.hours.proofs.k4.month_sums.Goals as goal

pub hour_sums-requires-clause-low : goal.hour_sums-requires-clause-low
hour_sums-requires-clause-low g c is = c.requires.filled ∙ low_high _ (sym c.all_low.ensures ∙ c.if-all_low.true)
