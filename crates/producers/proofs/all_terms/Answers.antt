use native.Mathlib.Omega.{arith}
use mathlib.Core.Path.{◌≡◌, sym, ap, ◌∙◌}
use Prim.Native.Nat.{◌<◌}
use Rattle.rules.specs.Said.{number_of}
use Rattle.laws.proofs.Arrays.{listed_agrees}
use Rattle.volumes.proofs.Turns.{volumes_whole}
use Rattle.producers.specs.Terms.{with_terms}
use Rattle.producers.proofs.Cuts.{with_none, with_no_table, with_all}
use Rattle.producers.proofs.Cuts.{tried_none, tried_low, tried_high, tried_all}
use Rattle.producers.proofs.all_terms.Goals.{in-Ok, in-Err}
use Rattle.producers.proofs.all_terms.Goals as goal

pub returns-in_default : goal.returns-in_default
returns-in_default c =
    let a = c.args in
    let none = sym (with_none a.layout a.s.now c.in_default.ensures) in
    let all = tried_all a.layout a.s.now none (tried_none a.layout a.s.now) in
    record { terms = all.0; number = all.1 }

pub returns-then-not-in_table : goal.returns-then-not-in_table
returns-then-not-in_table c =
    let sheet = c.in-Some.sheet in
    let same = c.in-Some.ensures in
    let month = sym c.in_table.ensures ∙ c.if-not-in_table.true in
    let none = sym (with_no_table sheet.layout sheet.bytes.now month) in
    let all = tried_all sheet.layout sheet.bytes.now none (tried_none sheet.layout sheet.bytes.now) in
    rw (sym same.0, sym same.1) (record { terms = all.0; number = all.1 })

pub loop-p-init : goal.loop-p-init
loop-p-init c = tried_none _ _

pub invariant_of-producer : goal.invariant_of-producer
invariant_of-producer c =
    let sheet = c.in-Some.sheet in
    let below : c.loop-p.p < 6 = omega (arith, c.loop-p-test.true, c.min-n.ensures) in
    let there : c.loop-p.p < sheet.layout.header.producers =
    omega (arith, c.loop-p-test.true, c.min-n.ensures) in
    record {
      there = there;
      read = c.producer.ensures.there there;
      counted = (listed_agrees c.row_volumes.ensures.volumes).each _ below ∙ volumes_whole _ _ sheet.whole _;
      fits = c.row_volumes.ensures.fits _ below;
      month = sym c.in_table.ensures ∙ c.if-not-in_table.false;
      days = c.control_days-control.ensures;
    }

pub loop-p-preserved : goal.loop-p-preserved
loop-p-preserved c =
    let tried = c.loop-p.invariant in
    let below : c.loop-p.p < 6 = omega (arith, c.loop-p-test.true, c.min-n.ensures) in
    elim c.match-terms.branch [
      | in-Ok w ↦ rw (w.all-is, w.tried-is) (tried_low _ _ _ tried below w.in-Ok.ensures.0 w.in-Ok.ensures.1)
      | in-Err w ↦
          let nine = ap number_of w.in-Err.ensures.1 in
          rw (w.all-is, w.tried-is) (tried_high _ _ _ tried w.in-Err.ensures.0 nine)
    ]

pub returns : goal.returns
returns c =
    let sheet = c.in-Some.sheet in
    let same = c.in-Some.ensures in
    let month = sym c.in_table.ensures ∙ c.if-not-in_table.false in
    let count = with_all sheet.layout sheet.bytes.now sheet.whole month in
    let end : c.loop-p.p ≡ with_terms sheet.layout sheet.bytes.now =
    omega (arith, c.loop-p-test.false, c.min-n.ensures, count) in
    let all = tried_all sheet.layout sheet.bytes.now end c.loop-p.invariant in
    rw (sym same.0, sym same.1) (record { terms = all.0; number = all.1 })
