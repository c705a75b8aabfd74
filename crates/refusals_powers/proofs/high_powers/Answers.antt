use Rattle.std.proofs.Common.{◌≡◌, ◌*◌, ◌/◌, sym, ap, ◌∙◌, arith, length}
use Rattle.rules.specs.Fields.{big_endian}
use Rattle.rules.specs.Refusals.{too_high}
use Rattle.laws.proofs.Range.{any_start, any_fold, any_done}
use Rattle.refusals_powers.specs.Powers.{high_powers}
use Rattle.refusals_powers.proofs.Low.{low_high}
use Rattle.refusals_powers.proofs.Powers.{high_max}
use Rattle.refusals_powers.proofs.high_powers.Goals as goal

pub returns-then-all_low : goal.returns-then-all_low
returns-then-all_low c = sym (low_high _ (sym c.all_low.ensures ∙ c.if-all_low.true))

pub loop-i-init : goal.loop-i-init
unfolding too_high
loop-i-init c = sym (any_start _)

pub loop-i-preserved : goal.loop-i-preserved
unfolding big_endian
loop-i-preserved c =
    let power : c.from_be_bytes-power.result ≡ big_endian 4 c.args.part.now (4 * c.loop-i.i) =
    grind (arith, c.from_be_bytes-power.ensures) in
    ap too_high c.max-most.ensures ∙ high_max _ _ ∙ any_fold _ _ c.loop-i.invariant (ap too_high power)

pub returns : goal.returns
unfolding high_powers
returns c =
    let all = any_done _ {n = length c.args.part.now / 4} (omega arith) (omega arith) c.loop-i.invariant in
    c.too_high.ensures ∙ all
