use mathlib.Core.Path.{ap, ◌∙◌}
use Prim.Native.Nat.{ℕ, ◌-◌}
use Rattle.sheet.specs.Month.{month_in}
use Rattle.producers.proofs.Cuts.{left_is, capacity_is, penalty_known, part_fits, first_terms}
use Rattle.producers.proofs.producer.Producer.terms.Goals as goal

pub factors-by-requires-clause-taken : goal.factors-by-requires-clause-taken
factors-by-requires-clause-taken c =
    let x = c.args.self.now in
    penalty_known x.sheet.layout x.sheet.bytes.now x.p x.read c.in_ok-f.ensures.1.average
    c.penalty_of-penalty.ensures

pub factors-by-requires-clause-k4 : goal.factors-by-requires-clause-k4
factors-by-requires-clause-k4 c =
    let x = c.args.self.now in
    let left =
    left_is x.sheet.layout x.sheet.bytes.now x.p x.counted x.read c.excess-excess.ensures
    (c.less-left.ensures ∙ ap (λ (n : ℕ). n - c.excess-excess.result.0) c.sold.ensures.sum) in
    let after = capacity_is x.sheet.layout x.sheet.bytes.now x.p x.counted x.read left in
    let known = rw (c.summed.ensures ∙ after) at c.in_ok-f.ensures.1.k4 in
    c.exact_k4.ensures ∙ known

pub factors-by-requires-clause-few : goal.factors-by-requires-clause-few
factors-by-requires-clause-few c = rw c.exact_k4.ensures (part_fits _ _ c.in_ok-f.ensures.1.fits)

pub returns : goal.returns
returns c =
    let x = c.args.self.now in
    (c.in_ok-f.ensures.0, first_terms (month_in x.sheet) x.p c.excess-excess.ensures c.factors-by.ensures)
