use Rattle.laws.proofs.Coefficients.{average_at_most}
use Rattle.laws.specs.Bounds.{most_word}
use Rattle.hours.proofs.control.outside_average.Goals as goal

pub returns-clause-fits : goal.returns-clause-fits
returns-clause-fits c =
    rw c.average_of.ensures (average_at_most 10 most_word _ c.outside_hours.ensures.fits.0)
