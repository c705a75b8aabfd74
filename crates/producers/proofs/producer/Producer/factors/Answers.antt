use mathlib.Core.Path.{◌≡◌, sym, ap, ◌∙◌}
use Prim.Native.Nat.{ℕ}
use lib.Dec.{eqb}
use Rattle.rules.specs.Cut.{row_count}
use Rattle.rules.specs.Units.{one}
use Rattle.units.specs.Sums.{millionths}
use Rattle.sheet.specs.Month.{month_in}
use Rattle.volumes.specs.declared.Volumes.{Volumes}
use Rattle.producers.specs.Terms.{single_factors}
use Rattle.producers.proofs.Cuts.{ks_known, single_known, shared_known, support_fits}
use Rattle.producers.proofs.producer.Producer.factors.Goals as goal

pub returns-then-self-eq1 : goal.returns-then-self-eq1
returns-then-self-eq1 c =
    let x = c.args.self.now in
    let rows = ap (λ (v : Volumes). v.rows) (sym x.counted) ∙ c.if-self-eq1.true in
    let kind = ap (λ (v : Volumes). eqb v.bilateral.0 0) x.counted in
    let ks = c.ks.ensures ∙ ks_known x.sheet.layout x.sheet.bytes.now x.p x.read one one in
    ap (λ (product : ℕ). single_factors (millionths product) c.ks.result) c.single_product.ensures
    ∙ single_known (month_in x.sheet) x.p rows kind c.requires.left c.requires.taken c.requires.k4 ks

pub less_penalty-k1-requires : goal.less_penalty-k1-requires
less_penalty-k1-requires c =
    let x = c.args.self.now in
    support_fits (month_in x.sheet) x.p x.counted x.fits c.support_after.ensures

pub returns : goal.returns
returns c =
    let x = c.args.self.now in
    let given = ks_known x.sheet.layout x.sheet.bytes.now x.p x.read _ _ in
    let ks = c.ks-ks.ensures ∙ rw (c.less_penalty-k1.ensures, c.millionths_of.ensures) given in
    let more : row_count (month_in x.sheet) x.p ≡ 1 → ⊥ =
    λ n. c.if-self-eq1.false (ap (λ (v : Volumes). v.rows) x.counted ∙ n) in
    shared_known (month_in x.sheet) x.p more c.support_after.ensures c.requires.taken c.requires.k4 ks
