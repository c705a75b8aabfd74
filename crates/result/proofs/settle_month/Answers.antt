use Rattle.std.proofs.Common.{◌∙◌, rules}
use Rattle.refusals_form.proofs.Refused.{from_one}
use Rattle.result.proofs.After.{
  answer,
  kept,
  kept_by_records,
  header_kept,
  room_kept,
  hours_answer,
  limits,
  written,
}
use Rattle.result.proofs.settle_month.Goals as goal

-- The records have a number.
pub returns-in-Err-clause-number : goal.returns-in-Err-clause-number
returns-in-Err-clause-number c = c.try_hours.ensures ∙ answer _ _ _ c.in-Err.ensures.number

pub returns-in-Err-clause-buffer : goal.returns-in-Err-clause-buffer
returns-in-Err-clause-buffer c = kept_by_records _ _ _ c.in-Err.ensures.number (from_one c.in-Err.refusal)

pub try_terms-requires : goal.try_terms-requires
try_terms-requires c =
    let k = c.in-Ok.ensures in
    record { header = header_kept _ _ c.args.out.now c.in-Ok.sheet k.number k.read }

-- The hours have one.
pub returns-in_err-try_terms-clause-number : goal.returns-in_err-try_terms-clause-number
returns-in_err-try_terms-clause-number c =
    let k = c.in-Ok in
    let hours = c.in_err-try_terms.ensures.number in
    let e = hours_answer _ _ c.args.out.now k.sheet k.ensures.number k.ensures.read hours in
    search rules

pub returns-in_err-try_terms-clause-buffer : goal.returns-in_err-try_terms-clause-buffer
returns-in_err-try_terms-clause-buffer c =
    let k = c.in-Ok in
    let hours = c.in_err-try_terms.ensures.number in
    kept _ _ _ (hours_answer _ _ c.args.out.now k.sheet k.ensures.number k.ensures.read hours) (from_one _)

-- Nothing has one.
pub write_result-requires-clause-limits : goal.write_result-requires-clause-limits
write_result-requires-clause-limits c =
    let k = c.in-Ok in
    limits _ _ c.args.out.now k.sheet k.ensures.number k.ensures.read c.in_ok-try_terms.ensures.number

pub write_result-requires-clause-room : goal.write_result-requires-clause-room
write_result-requires-clause-room c =
    let k = c.in-Ok in room_kept _ _ _ k.sheet k.ensures.number k.ensures.read

pub returns-clause-number : goal.returns-clause-number
returns-clause-number c =
    let k = c.in-Ok in
    hours_answer _ _ _ k.sheet k.ensures.number k.ensures.read c.in_ok-try_terms.ensures.number

pub returns-clause-buffer : goal.returns-clause-buffer
returns-clause-buffer c =
    let k = c.in-Ok in
    let hours = c.in_ok-try_terms.ensures.number in
    written _ _ _ k.sheet k.ensures.number k.ensures.read hours c.write_result.ensures
