use Rattle.std.proofs.Common.{◌∙◌, ap, ◌≢◌, ◌-◌, ◌<◌, drop, take, get_or, length, arith, below_more}
use Rattle.std.proofs.Common.{get_or-set_other, get_or-set_same}
use Rattle.std.proofs.Math.ListN.{length-set}
use Rattle.std.proofs.lemmas.List.{get_or-take}
use Rattle.fields.proofs.Rest.{get_or-rest, byte-rest}
use Rattle.fields.proofs.bytes.Goals as goal

pub returns-in-Some : goal.returns-in-Some
returns-in-Some g c i lt =
    let chunk = c.in-Some.ensures.cases in
    let s = c.args.s.now in
    let m = c.min.result in
    ap (λ p. get_or p i 0) chunk.same
    ∙ get_or-take g.row.N (take (length s - m) (drop m s)) i 0 lt
    ∙ get_or-rest s c.args.at m c.min.ensures i

pub loop-i-preserved : goal.loop-i-preserved
loop-i-preserved g c =
    let i = c.loop-i.i in
    let kept = c.loop-i.invariant in
    let inside : i < length c.loop-i.found = omega (arith, kept.0) in
    let read = byte-rest c.args.s.now c.args.at c.min.result c.min.ensures i in (
      rw length-set kept.0,
      below_more _ _
          (λ k h. let other : k ≢ i = omega arith in rw get_or-set_other (kept.1 k h))
          (rw get_or-set_same (c.byte.ensures ∙ read)),
    )
