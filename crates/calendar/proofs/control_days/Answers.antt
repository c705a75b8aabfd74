use Rattle.std.proofs.Common.{
  ◌≡◌,
  ℕ,
  ◌-◌,
  ◌<◌,
  Bool,
  true,
  false,
  not,
  cond,
  ◌&&◌,
  get_or,
  refl,
  sym,
  ◌∙◌,
  arith,
}
use borrow.Author.Tests.{eq-eqb, ne_eqb, ltb-false, ltb-true}
use lib.Bits.{bit_and}
use lib.Dec.{eqb, ltb}
use Rattle.rules.specs.declared.Header.{Header}
use Rattle.rules.specs.ControlHours.{holiday_on}
use Rattle.rules.specs.ControlTable.{yes, says, table_day}
use Rattle.laws.proofs.Arrays.{filled}
use Rattle.laws.proofs.ControlTable.{no_day}
use Rattle.calendar.specs.Days.{day_on}
use Rattle.calendar.proofs.Days.{none_filled, day_joined, day_off, on_both, on_rest}
use Rattle.calendar.proofs.control_days.Goals.{
  Joined-line-day-eq-YES,
  else-line-day-eq-YES,
  then-line-day-eq-YES,
}
use Rattle.calendar.proofs.control_days.Goals as goal

pub loop-day-init : goal.loop-day-init
loop-day-init c = none_filled _

-- What the table says of the day.
entry : (c : Joined-line-day-eq-YES)
    → says c.args.h.weekday c.loop-day.day ≡ eqb (get_or c.line_of-line.result c.loop-day.day 0) yes
unfolding says
entry c = rw c.line_of-line.ensures

pub loop-day-preserved : goal.loop-day-preserved
loop-day-preserved c =
    let before = c.loop-day.invariant in
    elim c.if-line-day-eq-YES.branch [
      | then-line-day-eq-YES w ↦
          rw w.on-is (day_joined _ _ _ before (omega arith) (entry c ∙ eq-eqb _ _ w.if-line-day-eq-YES.true))
      | else-line-day-eq-YES w ↦
          rw w.on-is (day_off _ _ _ before (entry c ∙ ne_eqb _ _ w.if-line-day-eq-YES.false))
    ]

-- Past the table's lines it says no, as the bits have it.
past : (first d : ℕ) → filled false (says first) 31 d ≡ says first d
past first d = go (ltb d 31) refl
  where
    go : (b : Bool) → ltb d 31 ≡ b → cond b (says first d) false ≡ says first d
    go true q = refl
    go false q = sym (no_day first d (ltb-false d 31 q))

-- Yes in the table, and no holiday.
left : (h : Header) (on d : ℕ) → h.holidays < 4294967296 → ((d : ℕ) → day_on on d ≡ says h.weekday d)
    → day_on (bit_and on (4294967295 - h.holidays)) d ≡ table_day h d
unfolding table_day
left h on d fits is = rw (on_both on (4294967295 - h.holidays) d, is d) (go (ltb d 31) refl)
  where
    go : (b : Bool) → ltb d 31 ≡ b
        → (says h.weekday d && day_on (4294967295 - h.holidays) d)
        ≡ (says h.weekday d && not (holiday_on h d))
    go true q =
        let l = ltb-true d 31 q in
        rw (on_rest 32 h.holidays d fits (omega arith)) (unfold day_on holiday_on in refl)
    go false q = rw (no_day h.weekday d (ltb-false d 31 q))

pub returns : goal.returns
returns c d =
    let l = c.loop-day in
    let end : l.day ≡ 31 = omega arith in
    left c.args.h l.on d (omega arith) (λ e. rw end at (l.invariant e) ∙ past _ e)
