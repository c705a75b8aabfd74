use Rattle.std.proofs.Common.{arith, ◌+◌, ◌≤◌, ◌*◌, ◌/◌, ◌%◌, length, refl, sym, ap, ◌∙◌, not}
use Rattle.laws.proofs.Range.{any_start}
use Rattle.refusals_powers.specs.Powers.{all_low}
use Rattle.refusals_powers.proofs.Low.{front_joined, more_front, none_there, one_there, some_front}
use Rattle.refusals_powers.proofs.all_low.Goals as goal

pub loop-b-init : goal.loop-b-init
loop-b-init c = sym (any_start _)

pub returns-then-bits-ne0 : goal.returns-then-bits-ne0
unfolding all_low
returns-then-bits-ne0 c =
    let n = length c.args.part.now in
    let inside : 72 * c.loop-b.b + 72 ≤ n / 4 = omega arith in
    let found = front_joined c.loop-b.bits c.joined-bits.result
    ∙ more_front c.args.part.now (288 * c.loop-b.b) (72 * c.loop-b.b) 72 (omega arith) (omega arith)
    c.loop-b.invariant c.joined-bits.ensures in
    rw (some_front c.args.part.now (72 * c.loop-b.b + 72) {n = n / 4} inside
    (sym found ∙ one_there _ c.if-bits-ne0.true)) refl

pub loop-b-preserved : goal.loop-b-preserved
loop-b-preserved c =
    front_joined c.loop-b.bits c.joined-bits.result
    ∙ more_front _ (288 * c.loop-b.b) (72 * c.loop-b.b) 72 (omega arith) (omega arith) c.loop-b.invariant
    c.joined-bits.ensures

pub returns : goal.returns
unfolding all_low
returns c =
    let n = length c.args.part.now in
    none_there _
    ∙ ap not (front_joined c.loop-b.bits c.joined-bits-2.result
    ∙ more_front c.args.part.now (288 * (n / 288)) (72 * c.loop-b.b) (n % 288 / 4) (omega arith) (omega arith)
    c.loop-b.invariant c.joined-bits-2.ensures)
