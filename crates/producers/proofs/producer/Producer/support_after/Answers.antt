use mathlib.Core.Path.{sym, ap, ◌∙◌}
use Rattle.rules.specs.Coefficients.{support_after}
use Rattle.laws.proofs.Cut.{support_kept}
use Rattle.volumes.specs.declared.Volumes.{Volumes}
use Rattle.producers.proofs.producer.Producer.support_after.Goals as goal

pub returns-then-over-eq0 : goal.returns-then-over-eq0
unfolding support_after
returns-then-over-eq0 c =
    ap (λ (v : Volumes). v.support.0) c.args.self.now.counted
    ∙ sym (support_kept _ _ (sym c.requires ∙ c.if-over-eq0.true))
