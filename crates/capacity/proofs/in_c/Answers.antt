use Rattle.std.proofs.Common.{◌<◌, sym, ap, ◌∙◌, arith}
use Rattle.rules.specs.Said.{said}
use Rattle.capacity.specs.InC.{in_c, counted, count_end}
use Rattle.capacity.proofs.Signed.{number_fits, number_back, count_fits, count_back}
use Rattle.capacity.proofs.in_c.Goals.{In-Ok}
use Rattle.capacity.proofs.in_c.Goals as goal

pub overflow_sub-result : goal.overflow_sub-result
overflow_sub-result c = number_fits c.number.result (omega arith)

-- The count is the one that the function requires to be small.
count_lt : (c : In-Ok) → c.in-Ok.count < count_end
count_lt c = omega (arith, ap (λ a. counted (said a)) c.in-Ok.is, c.requires)

pub overflow_cast-result-in-Ok : goal.overflow_cast-result-in-Ok
overflow_cast-result-in-Ok c = count_fits _ (count_lt c)

pub returns-in-Err : goal.returns-in-Err
returns-in-Err c =
    let number = number_back c.number.result (omega arith) in
    number ∙ rw c.number.ensures (ap (λ a. in_c (said a)) (sym c.in-Err.is))

pub returns-in-Ok : goal.returns-in-Ok
returns-in-Ok c = count_back _ (count_lt c) ∙ ap (λ a. in_c (said a)) (sym c.in-Ok.is)
