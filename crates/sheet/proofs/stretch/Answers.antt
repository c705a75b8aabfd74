use mathlib.Core.Path.{refl}
use native.Mathlib.Nat.{add-sub_cancel_left}
use native.Mathlib.Omega.{arith}
use Rattle.rules.specs.Outcome.{within}
use Rattle.sheet.proofs.Whole.{stretch_whole, stretch_short}
use Rattle.sheet.proofs.stretch.Goals as goal

pub returns-then-s-end : goal.returns-then-s-end
unfolding within
returns-then-s-end c =
    let a = c.args in
    let at = c.hours_at-at.ensures.0 in
    let wide = c.hours_width.ensures.0 in
    rw (stretch_short a.layout a.s.now a.p (omega (arith, at, wide, c.if-s-end.true))) (record { part = refl; place = (refl, omega arith) })

pub returns : goal.returns
unfolding within
returns c =
    let a = c.args in
    let at = c.hours_at-at.ensures.0 in
    let wide = c.hours_width.ensures.0 in
    rw (
      stretch_whole a.layout a.s.now a.p (omega (arith, at, wide, c.if-s-end.false)),
      add-sub_cancel_left,
      at,
      wide,
    )
    (record { part = refl; place = (refl, refl) })
