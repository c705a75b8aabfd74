use Rattle.producers.proofs.Hours.{hours_known}
use Rattle.producers.proofs.producer.Producer.hours.Goals as goal

pub returns : goal.returns
returns c =
    let x = c.args.self.now in
    let there = (c.hours-hours.ensures.there x.there).0 in
    hours_known x.sheet.layout x.sheet.bytes.now x.p _ _ there x.month x.days c.hour_series-of.ensures
    c.hours-hours.ensures.part c.hour_figures.result c.hour_figures.ensures.figures c.hour_figures.ensures.fits
