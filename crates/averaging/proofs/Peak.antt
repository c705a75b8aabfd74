-- Net power in a record's hours, the peak that comes of it, and where it is put. Assumes nothing.
use mathlib.Core.Path.{◌≡◌, refl, sym, ap₂}
use mathlib.Core.Bool.{true, ◌&&◌}
use mathlib.Core.List.{List}
use Prim.Native.Nat.{ℕ, ◌+◌, ◌-◌, ◌*◌, ◌≤◌, ◌<◌}
use native.Mathlib.Omega.{arith}
use borrow.Author.Tests.{le-leb}
use lib.ListN.{length, drop, length-drop}
use Rattle.rules.specs.declared.Header.{Header}
use Rattle.rules.specs.declared.Series.{Series}
use Rattle.rules.specs.Month.{hours}
use Rattle.rules.specs.declared.Layout.{Layout}
use Rattle.rules.specs.Fields.{bytes_of}
use Rattle.rules.specs.Sheet.{power, sheet_length, peak_at, with_peak}
use Rattle.rules.specs.Units.{tenth}
use Rattle.rules.specs.ControlTable.{table_day}
use Rattle.rules.specs.ComplexRecord.{record_width, imported, drawn_series, sent_series, drawn, sent}
use Rattle.rules.specs.Averaging.{net, complex_peak}
use Rattle.laws.proofs.Fields.{read_drop, length-bytes_of}
use Rattle.laws.proofs.Sheet.{consumer_inside}
use Rattle.writing.specs.Placed.{placed_at}
use Rattle.writing.proofs.Placing.{placed_at_over}
use Rattle.calendar.specs.Days.{day_on}
use Rattle.hours.specs.Series.{stands, power_in, net_in}
use Rattle.hours.proofs.Known.{average_known}
use Rattle.complex_record.specs.Net.{net_average}

module _ (h : Header) (r : List ℕ) (long : record_width h ≤ length r) where
  -- A series stands in the hours, and is read there.
  standing : (x : Series) → x.step ≡ 8 → x.start ≤ 4 → stands (length (drop 9 r)) x (hours h) ≡ true
  unfolding stands
  standing x by from =
      let inside : x.start + x.step * hours h + 4 ≤ length (drop 9 r) + x.step =
      rw (by, length-drop) (omega (arith, long)) in
      le-leb _ _ inside

  read : (x : Series) (i : ℕ) → power_in (drop 9 r) x i ≡ power r 9 x i
  unfolding power
  read x i = read_drop 4 9 r (x.start + x.step * i)

  both_stand : (stands (length (drop 9 r)) drawn_series (hours h)
      && stands (length (drop 9 r)) sent_series (hours h)) ≡ true
  both_stand = rw (standing drawn_series refl (omega arith), standing sent_series refl (omega arith))

  net_read : (i : ℕ) → i < hours h → net_in (drop 9 r) drawn_series sent_series i ≡ net r i
  unfolding net drawn sent
  net_read i b = ap₂ (λ (a b : ℕ). a - b) (read drawn_series i) (read sent_series i)

  -- In a month that the table has.
  module _ (few : h.days ≤ 31) (from : 1 ≤ h.weekday) (to : h.weekday ≤ 7) (on : ℕ)
      (days : (d : ℕ) → day_on on d ≡ table_day h d) where
    pub peak_known : {average taken peak : ℕ} → average ≡ net_average r h.days on → taken ≡ imported r
        → peak ≡ average - taken → peak ≡ complex_peak h r
    unfolding complex_peak
    peak_known averaged less is =
        let net_hours = net_in (drop 9 r) drawn_series sent_series in
        let known = average_known h few from to on days net_hours (net r) both_stand net_read tenth in
        rw (is, averaged, less, known)

-- In a sheet that has the consumer there is room for its peak.
pub peak_put : (layout : Layout) (c peak : ℕ) (s : List ℕ) → sheet_length layout ≤ length s
    → c < layout.header.consumers
    → with_peak layout c peak s ≡ placed_at (peak_at layout c) (bytes_of 4 peak) s
unfolding with_peak
peak_put layout c peak s whole b =
    let fits : peak_at layout c + 4 ≤ length s = omega (arith, consumer_inside layout c b) in
    sym (placed_at_over (peak_at layout c) (bytes_of 4 peak) s (rw length-bytes_of fits))
