use Rattle.std.proofs.Common.{refl, sym, arith}
use Rattle.std.proofs.lemmas.Result.{err_from_is_err_and}
use Rattle.rules.specs.Refusals.{first_of}
use Rattle.rules.specs.Transfers.{after_entries, turn_tests}
use Rattle.laws.proofs.Range.{any_start, any_end}
use Rattle.transfers.specs.Held.{read}
use Rattle.transfers.proofs.Turn.{refused, turned}
use Rattle.transfers.proofs.contracts.Volumes.apply.Goals as goal

pub loop-i-init : goal.loop-i-init
unfolding after_entries read
loop-i-init c = (record { wide = c.requires.0.wide; each = λ j b. refl }, any_start _)

pub returns-in_err-left-clause-number : goal.returns-in_err-left-clause-number
returns-in_err-left-clause-number c =
    let l = c.loop-i in
    let said = c.in_err-left.ensures.refused in
    let p = err_from_is_err_and c.from_residual.result c.from_residual.ensures.1 in
    rw (p.1, p.2, said.1)
    (refused (read c.args.self.now) c.requires.0.each c.args.list.now c.requires.1 l.i
    (omega (arith, c.entry_count-count.ensures)) l.invariant.1 l.self.of l.invariant.0
    c.entry-t.ensures c.stated.ensures said.0)

pub loop-i-preserved : goal.loop-i-preserved
loop-i-preserved c =
    let l = c.loop-i in
    let said = c.in_ok-left.ensures in
    turned (read c.args.self.now) c.requires.0.each c.args.list.now c.requires.1 l.i
    (omega (arith, c.entry_count-count.ensures)) l.invariant.1 l.self.of l.invariant.0
    c.entry-t.ensures c.stated.ensures said.met said.left said.raised

pub returns-clause-number : goal.returns-clause-number
unfolding turn_tests first_of
returns-clause-number c =
    let none = any_end _ c.loop-i.auto.i-end c.loop-i-test.false c.loop-i.invariant.1 in
    rw (sym c.entry_count-count.ensures, none)
