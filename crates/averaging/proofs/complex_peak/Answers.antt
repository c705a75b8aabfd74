use mathlib.Core.Path.{◌∙◌}
use Rattle.averaging.proofs.Peak.{peak_known}
use Rattle.averaging.proofs.complex_peak.Goals as goal

pub returns : goal.returns
returns c =
    let p = c.requires in
    let d = c.control_days in
    peak_known c.args.h c.args.rec.now p.0 p.1 p.2 p.3 d.result.on d.ensures
    c.net_average.ensures
    (c.stated.ensures.0 ∙ c.imported.ensures)
    c.less.ensures
