use Rattle.std.proofs.Common.{◌∙◌, arith}
use Rattle.hours.proofs.Orders.{
  hours_fill,
  hours_held,
  hours_passed,
  columns_fill,
  columns_held,
  columns_passed,
}
use Rattle.hours.proofs.figures.tried_sums.Goals as goal

pub month_sums-requires-clause-inside : goal.month_sums-requires-clause-inside
month_sums-requires-clause-inside c =
    let a = c.args in
    let told = c.in-Some-ByHour in
    omega (arith, hours_fill a.part.now a.of a.days c.hour_order.ensures told.is told.field-0-is)

pub month_sums-requires-clause-small : goal.month_sums-requires-clause-small
month_sums-requires-clause-small c =
    let a = c.args in
    let told = c.in-Some-ByHour in
    let few = (hours_fill a.part.now a.of a.days c.hour_order.ensures told.is told.field-0-is).1 in
    (omega arith, omega arith, omega arith, omega (arith, few))

pub month_sums-requires-clause-filled : goal.month_sums-requires-clause-filled
month_sums-requires-clause-filled c =
    let a = c.args in
    let told = c.in-Some-ByHour in
    hours_held a.part.now a.of a.days c.hour_order.ensures told.is told.field-0-is

pub returns-in-Some-ByHour : goal.returns-in-Some-ByHour
returns-in-Some-ByHour c =
    let a = c.args in
    let told = c.in-Some-ByHour in
    c.month_sums.ensures
    ∙ hours_passed a.part.now a.of a.days c.hour_order.ensures told.is told.field-0-is _

pub month_sums-requires-in-Some-ByColumn-clause-inside :
    goal.month_sums-requires-in-Some-ByColumn-clause-inside
month_sums-requires-in-Some-ByColumn-clause-inside c =
    let a = c.args in
    let told = c.in-Some-ByColumn in
    omega (arith, columns_fill a.part.now a.of a.days c.hour_order.ensures told.is told.field-0-is)

pub month_sums-requires-in-Some-ByColumn-clause-small :
    goal.month_sums-requires-in-Some-ByColumn-clause-small
month_sums-requires-in-Some-ByColumn-clause-small c =
    let a = c.args in
    let told = c.in-Some-ByColumn in
    let few = (columns_fill a.part.now a.of a.days c.hour_order.ensures told.is told.field-0-is).1 in
    (omega arith, omega arith, omega arith, omega (arith, few))

pub month_sums-requires-in-Some-ByColumn-clause-filled :
    goal.month_sums-requires-in-Some-ByColumn-clause-filled
month_sums-requires-in-Some-ByColumn-clause-filled c =
    let a = c.args in
    let told = c.in-Some-ByColumn in
    columns_held a.part.now a.of a.days c.hour_order.ensures told.is told.field-0-is

pub returns-in-Some-ByColumn : goal.returns-in-Some-ByColumn
returns-in-Some-ByColumn c =
    let a = c.args in
    let told = c.in-Some-ByColumn in
    c.month_sums-in-Some-ByColumn.ensures
    ∙ columns_passed a.part.now a.of a.days c.hour_order.ensures told.is told.field-0-is _
