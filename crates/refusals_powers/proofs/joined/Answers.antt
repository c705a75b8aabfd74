use Rattle.std.proofs.Common.{◌%◌, ◌∙◌, sym, ap, ltb}
use Rattle.laws.proofs.Range.{any_start, any_fold}
use Rattle.refusals_powers.proofs.Low.{front_joined, word_front}
use Rattle.refusals_powers.proofs.joined.Goals as goal

pub loop-i-init : goal.loop-i-init
loop-i-init c = sym (any_start _)

pub loop-i-preserved : goal.loop-i-preserved
loop-i-preserved c =
    let word = ap (λ w. ltb 0 (w % 65536)) c.from_le_bytes-bits.ensures
    ∙ word_front _ _ (λ i. (c.type_inv.s i).fits) in
    front_joined c.loop-i.bits c.from_le_bytes-bits.result ∙ any_fold _ _ c.loop-i.invariant word
