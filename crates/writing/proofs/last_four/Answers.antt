use Rattle.std.proofs.Common.{◌∙◌}
use Rattle.writing.proofs.Placing.{last_four_bytes}
use Rattle.writing.proofs.last_four.Goals as goal

pub returns : goal.returns
returns c = c.to_be_bytes.ensures ∙ last_four_bytes c.args.v
