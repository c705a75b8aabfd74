use Rattle.settlement.proofs.hours_of.Goals as goal

pub returns : goal.returns
returns c = c.producer_hours.ensures
