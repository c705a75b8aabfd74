use mathlib.Core.Path.{◌≡◌}
use mathlib.Core.Logic.{inl, inr, ⊎_elim}
use mathlib.Core.List.{List, []}
use Prim.Native.Nat.{ℕ, suc, ◌≤◌, ◌<◌}
use native.Mathlib.Nat.{eq-zero-or-pos}
use native.Mathlib.Omega.{arith}
use lib.ListN.{get_or}
use Rattle.rules.specs.ControlTable.{control_weekdays, line_of}
use Rattle.laws.proofs.ControlTable.{line_at, line_none}
use Rattle.calendar.proofs.table.line_of.Goals as goal

-- The line that is read at a weekday.
chosen : (i : ℕ) {t : List (List ℕ)} {first : ℕ} → t ≡ control_weekdays → i < 7 → first ≡ suc i
    → get_or t i [] ≡ line_of first
chosen i same within e = rw (same, e) (line_at [] i within)

-- One by one: a number that is not the next weekday's is above it.
next : {a n : ℕ} → a ≤ n → (n ≡ a → ⊥) → suc a ≤ n
next l h = omega arith

past : {n : ℕ} → 1 ≤ n → ((((((Unit {0} × (n ≡ 1 → ⊥)) × (n ≡ 2 → ⊥)) × (n ≡ 3 → ⊥)) × (n ≡ 4 → ⊥)) × (n ≡ 5 → ⊥)) × (n ≡ 6 → ⊥)) × (n ≡ 7 → ⊥) → 7 < n
past p r = next (next (next (next (next (next (next p r.0.0.0.0.0.0.1) r.0.0.0.0.0.1) r.0.0.0.0.1) r.0.0.0.1) r.0.0.1) r.0.1) r.1

pub returns-in-1 : goal.returns-in-1
returns-in-1 c = chosen 0 c.control_weekdays-table.ensures (omega arith) (omega arith)

pub returns-in-2 : goal.returns-in-2
returns-in-2 c = chosen 1 c.control_weekdays-table.ensures (omega arith) (omega arith)

pub returns-in-3 : goal.returns-in-3
returns-in-3 c = chosen 2 c.control_weekdays-table.ensures (omega arith) (omega arith)

pub returns-in-4 : goal.returns-in-4
returns-in-4 c = chosen 3 c.control_weekdays-table.ensures (omega arith) (omega arith)

pub returns-in-5 : goal.returns-in-5
returns-in-5 c = chosen 4 c.control_weekdays-table.ensures (omega arith) (omega arith)

pub returns-in-6 : goal.returns-in-6
returns-in-6 c = chosen 5 c.control_weekdays-table.ensures (omega arith) (omega arith)

pub returns-in-7 : goal.returns-in-7
returns-in-7 c = chosen 6 c.control_weekdays-table.ensures (omega arith) (omega arith)

pub returns-in_default : goal.returns-in_default
returns-in_default c =
    line_none _ (⊎_elim inl (λ p. inr (past p c.in_default.in_default-own.rest)) (eq-zero-or-pos c.args.first))
