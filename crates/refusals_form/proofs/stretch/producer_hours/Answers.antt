use Rattle.std.proofs.Common.{refl, sym, arith}
use Rattle.laws.proofs.Refusals.{stretch_refused, stretch_none}
use Rattle.refusals_form.proofs.Refused.{from_one}
use Rattle.refusals_form.proofs.Handed.{no_stretch, stretch_same, stretch_length}
use Rattle.refusals_form.proofs.stretch.producer_hours.Goals as goal

pub returns-in_default : goal.returns-in_default
returns-in_default c =
    let refusal = c.in_default.field-0 in
    let e = c.in_default.ensures.number in
    let none = stretch_refused c.args.s.now c.args.p (λ z. omega (arith, from_one refusal, e, z)) in
    let p = no_stretch _ _ _ none in
    record { part = p.0; place = (refl, p.1); bytes = p.2 }

pub returns-then-sheet-p : goal.returns-then-sheet-p
returns-then-sheet-p c =
    let told = c.in-Ok.ensures in
    let none = stretch_none c.args.s.now c.args.p (sym told.number) (rw told.read.1 at c.if-sheet-p.true) in
    let p = no_stretch _ _ _ none in
    record { part = p.0; place = (refl, p.1); bytes = p.2 }

pub returns : goal.returns
returns c =
    let s = c.args.s.now in
    let p = c.args.p in
    let told = c.in-Ok.ensures in
    let layout = c.in-Ok.sheet.layout in
    let here = c.stretch.ensures in
    let same = stretch_same s p layout told.read.1 (sym told.number) c.if-sheet-p.false in
    let long = stretch_length s p layout told.read.1 (sym told.number) c.if-sheet-p.false in
    record {
      part = rw same at here.part;
      place = (here.place.0, rw same at here.place.1);
      bytes = rw (here.part, same) long;
    }
