-- A worse consumer, with no larger credit, is charged no less; and the exam's question. Assumes nothing.
use mathlib.Core.Path.{◌≡◌, refl, sym, ap}
use Prim.Native.Nat.{ℕ, ◌-◌, ◌*◌, ◌≤◌}
use native.Mathlib.Nat.{le_refl, le_of_eq, add-le-add, mul-le-mul}
use native.Mathlib.Omega.{arith}
use Rattle.rules.specs.declared.Header.{Header}
use Rattle.rules.specs.declared.Consumer.{Consumer}
use Rattle.rules.specs.Month.{Month}
use Rattle.rules.specs.Consumers.{
  credit,
  counted_peak,
  over_contract,
  percent_of,
  bracket,
  mining,
  volume_of,
  volume,
  charge,
}
use Rattle.laws.proofs.Units.{rounded_mono, money_mono}
use Rattle.theorems.specs.Demand3.{WorseConsumer}
use Rattle.theorems.proofs.Bands.{band_mono, thousandths_mono}

over_mono : (contract : ℕ) {x y : ℕ} → x ≤ y → over_contract contract x ≤ over_contract contract y
unfolding over_contract
over_mono contract h = omega arith

bracket_mono : (contract : ℕ) {x y : ℕ} → x ≤ y → bracket contract x ≤ bracket contract y
unfolding bracket percent_of
bracket_mono contract {x} {y} h =
    let up : over_contract contract x - contract ≤ over_contract contract y - contract = omega (arith, over_mono contract h) in
    add-le-add (le_refl (200 * contract)) (mul-le-mul (band_mono (thousandths_mono refl (over_mono contract h))) up)

mining_mono : (days : ℕ) {s t : ℕ} → s ≤ t → mining days s ≤ mining days t
unfolding mining
mining_mono days h = omega arith

volume_of_mono : {days days' : ℕ} (c c' : Consumer) → days' ≡ days → WorseConsumer c c' → {x y : ℕ} → x ≤ y
    → volume_of days c x ≤ volume_of days' c' y
unfolding volume_of
volume_of_mono {days} c c' e w h =
    rw (e, w.contract)
    (rounded_mono (200 * days * days * 10)
    (mul-le-mul
    (mul-le-mul (mul-le-mul (bracket_mono c.contract h) (mining_mono days w.supplier)) (mining_mono days w.grid))
    w.z))

-- The exam's last part: no higher counted peak ever gives a lower volume.
pub exam : (days : ℕ) (c : Consumer) {x y : ℕ} → x ≤ y → volume_of days c x ≤ volume_of days c y
exam days c h = volume_of_mono c c refl alike h
  where
    alike : WorseConsumer c c
    alike = record {
      contract = refl;
      peak = le_refl _;
      supplier = le_refl _;
      grid = le_refl _;
      z = le_refl _;
      price = refl;
    }

-- In a month: a worse consumer with no larger credit.
module _ (m m' : Month) (e : m'.header ≡ m.header) (c : ℕ) (w : WorseConsumer (m.consumer c) (m'.consumer c)) (less : credit m' c ≤ credit m c) where
  peak_up : counted_peak m c ≤ counted_peak m' c
  unfolding counted_peak
  peak_up = omega (arith, w.peak)

  pub volume_up : volume m c ≤ volume m' c
  unfolding volume
  volume_up = volume_of_mono (m.consumer c) (m'.consumer c) (ap (λ (h : Header). h.days) e) w peak_up

  pub charge_up : charge m c ≤ charge m' c
  unfolding charge
  charge_up = money_mono volume_up (le_of_eq (sym w.price))
