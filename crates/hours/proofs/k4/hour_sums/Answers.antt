use Rattle.std.proofs.Common.{refl, sym, ap, ◌∙◌, zero-add, arith, lt-ltb, le-ltb, ◌≡◌, ℕ, zero, suc, not, false}
use borrow.Author.Tests.{ne_eqb}
use Rattle.rules.specs.Refusals.{too_high}
use Rattle.rules.specs.Range.{any}
use Rattle.laws.proofs.Range.{any_start, sum_none, any_fold, any_done}
use Rattle.refusals_powers.proofs.Powers.{high_max}
use Rattle.hours.specs.Sums.{sums_of_hours, hour_high}
use Rattle.hours.proofs.Wrapping.{sum_wrapped}
use Rattle.hours.proofs.Places.{asked_exact, met_exact}
use Rattle.hours.proofs.k4.hour_sums.Goals as goal
use Rattle.hours.proofs.k4.hour_sums.Goals.{then-not-this, else-not-this}

-- The hours are LOW or not.
either : {P : Type 0} (low : ℕ) → (low ≡ 0 → P) → ((low ≡ 0 → ⊥) → P) → P
either zero off on = off refl
either (suc n) off on = on (λ e. omega (arith, e))

pub loop-i-init : goal.loop-i-init
unfolding too_high
loop-i-init g c =
    record { tried = λ l. sym (any_start _); low = λ l. refl; asked = simp sum_none; met = simp sum_none }

pub loop-i-preserved : goal.loop-i-preserved
loop-i-preserved g c =
    let inv = c.loop-i.invariant in
    let w = c.power_at-w.ensures in
    let p = c.power_at-p.ensures in
    let o = c.power_at-o.ensures in
    let asked = sum_wrapped _ _ inv.asked (rw (c.min-m.ensures, p)) refl in
    let met = sum_wrapped _ _ inv.met (rw (c.min-met.ensures, c.min-m.ensures, p, w, zero-add)) refl in
    elim c.if-not-this.branch [
      | then-not-this b ↦ record {
        tried = λ l.
            ap too_high (b.most-is ∙ b.max-most.ensures) ∙ high_max _ _
            ∙ any_fold _ _ (inv.tried l)
            (ap too_high (rw (b.max-then-not-this.ensures, b.max.ensures, w, p, o, zero-add)));
        low = λ n. absurd (n b.if-not-this.true);
        asked = asked;
        met = met;
      }
      | else-not-this b ↦ record {
        tried = λ l. absurd (b.if-not-this.false l);
        low = λ n. b.most-is ∙ inv.low n;
        asked = asked;
        met = met;
      }
    ]

pub returns-then-most-gt-CEILING : goal.returns-then-most-gt-CEILING
unfolding sums_of_hours too_high
returns-then-most-gt-CEILING g c =
    let inv = c.loop-i.invariant in
    let above = c.if-most-gt-CEILING.true in
    let high = lt-ltb _ _ above in
    either g.row.LOW
    (λ l. rw (sym (any_done _ {n = c.args.hours} (omega arith) (omega arith) (inv.tried l)), high))
    (λ n. absurd (omega (arith, above, inv.low n)))

pub returns : goal.returns
unfolding sums_of_hours too_high
returns g c =
    let a = c.args in
    let inv = c.loop-i.invariant in
    let end : c.loop-i.i ≡ a.hours = omega arith in
    let low : any (hour_high a.part.now g.row.STEP a.possible a.outside) a.hours ≡ false =
    either g.row.LOW
    (λ l. sym (any_done _ {n = a.hours} (omega arith) (omega arith) (inv.tried l)) ∙ le-ltb _ _ c.if-most-gt-CEILING.false)
    (λ n. c.requires.low (ap not (ne_eqb g.row.LOW 0 n))) in
    let held = c.min-held.ensures in
    rw (
      low,
      asked_exact a.part.now g.row.STEP a.possible a.outside a.summed.0 a.hours (omega arith) low
          (rw (held, end) at inv.asked),
      met_exact a.part.now g.row.STEP a.possible a.outside a.summed.0 a.hours (omega arith) low
          (rw (held, end) at inv.met),
    )
