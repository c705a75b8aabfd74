use Rattle.std.proofs.Common.{◌≡◌, ◌+◌, sym, ◌∙◌, zero-le, arith}
use Rattle.units.proofs.Adding.{added_exact}
use Rattle.laws.proofs.Range.{sum_none}
use Rattle.hours.proofs.Evenings.{none_beside, more_beside}
use Rattle.hours.proofs.Evenings.{evening_counted, hours_counted, evening_passed, hours_passed}
use Rattle.hours.proofs.control.control_hours.Goals.{then-is_on+else-loop-t-test, else-is_on}
use Rattle.hours.proofs.control.control_hours.Goals as goal

pub loop-day-init : goal.loop-day-init
loop-day-init g c = (λ series is. (sym (sum_none _), sym (sum_none _)), zero-le, zero-le)

pub loop-t-init : goal.loop-t-init
loop-t-init g c =
    let before = c.loop-day.invariant in
    (λ series is. none_beside _ _ (before.0 series is).0, omega (arith, before.1))

pub loop-t-preserved : goal.loop-t-preserved
loop-t-preserved g c =
    let before = c.loop-t.invariant in
    let summed : c.plus-counted.result.0 ≡ c.loop-t.counted.0 + c.power_of-power.result =
    c.plus-counted.ensures ∙ rw c.stated.ensures.0 (added_exact _ _ (omega (arith, before.1, c.loop-day.invariant.2))) in (
      λ series is. summed ∙ more_beside _ _ _ (before.0 series is) (is _ _ (omega arith) c.power_of-power.ensures),
      omega (arith, summed, before.1),
    )

pub loop-day-preserved : goal.loop-day-preserved
loop-day-preserved g c =
    let before = c.loop-day.invariant in
    let on = sym c.is_on.ensures in
    elim c.if-is_on.branch [
      | then-is_on+else-loop-t-test w ↦ rw (w.counted-is, w.count-is) (
        λ series is. (
          evening_counted series c.args.control.on c.loop-day.day (on ∙ w.if-is_on.true)
              w.loop-t.auto.t-end w.loop-t-test.false (w.loop-t.invariant.0 series is),
          hours_counted series c.args.control.on c.loop-day.day (on ∙ w.if-is_on.true) (before.0 series is).1,
        ),
        omega (arith, w.loop-t.invariant.1, before.2),
        omega (arith, before.2),
      )
      | else-is_on w ↦ rw (w.counted-is, w.count-is) (
        λ series is. (
          evening_passed series c.args.control.on c.loop-day.day (on ∙ w.if-is_on.false)
              (before.0 series is).0,
          hours_passed series c.args.control.on c.loop-day.day (on ∙ w.if-is_on.false) (before.0 series is).1,
        ),
        before.1,
        omega (arith, before.2),
      )
    ]
