use mathlib.Core.Path.{sym, ◌∙◌}
use Rattle.laws.proofs.Coefficients.{ratio_is}
use Rattle.producers.proofs.millionths_of.Goals as goal

pub returns : goal.returns
returns c = c.nearest.ensures ∙ sym (ratio_is _)
