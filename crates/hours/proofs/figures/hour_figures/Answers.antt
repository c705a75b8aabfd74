use Rattle.std.proofs.Common.{sym, ◌∙◌}
use Rattle.hours.proofs.Fitting.{sums_fit}
use Rattle.hours.proofs.Found.{sums_low}
use Rattle.hours.proofs.figures.hour_figures.Goals as goal

pub returns-clause-fits : goal.returns-clause-fits
returns-clause-fits c =
    let low = sums_low _ _ _ _ c.args.control.on (sym c.tried_sums.ensures ∙ c.in_ok-sums.was) in
    let a = c.args in
    let fit = sums_fit a.part.now (λ i. (c.type_inv.part i).fits)
    a.of.working a.of.possible a.days a.summed.0 in
    (rw low.1 fit.0, rw low.1 fit.1, c.outside_average-average.ensures.fits)
