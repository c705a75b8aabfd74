-- What k4's sums come to at most.
use Rattle.std.proofs.Common.{ℕ, ◌+◌, ◌*◌, ◌<◌, ◌≤◌, Bool, true, false, cond, ◌&&◌, List, length, get_or}
use Rattle.std.proofs.Common.{zero-le, arith}
use Rattle.rules.specs.declared.Series.{Series}
use Rattle.rules.specs.Fields.{big_endian}
use Rattle.laws.specs.Bounds.{most_word}
use Rattle.laws.proofs.Range.{sum-le}
use Rattle.hours.specs.declared.k4.K4.{K4}
use Rattle.hours.specs.Series.{stands, power_in}
use Rattle.hours.specs.Sums.{k4_in, k4_of, asked_of, met_of, no_sums}

module _ (part : List ℕ) (bytes : (i : ℕ) → get_or part i 0 < 256) where
  word_fits : (at : ℕ) → big_endian 4 part at ≤ most_word
  unfolding big_endian
  word_fits at = omega (arith, bytes (at + 0), bytes (at + 1), bytes (at + 2), bytes (at + 3))

  module _ (working possible : Series) (days S : ℕ) where
    abbrev Fit : K4 → Type 0
    Fit k = (k.asked.0 ≤ most_word * (24 * days)) × (k.met.0 ≤ most_word * (24 * days))

    abbrev w : ℕ → ℕ
    w = power_in part working

    abbrev p : ℕ → ℕ
    p = power_in part possible

    all_fit : Fit (k4_of w p S (24 * days))
    all_fit =
        let asked = sum-le (asked_of p S) most_word (24 * days)
        (λ i l. omega (arith, word_fits (possible.start + possible.step * i))) in
        let met = sum-le (met_of w p S) most_word (24 * days)
        (λ i l. omega (arith, word_fits (working.start + working.step * i))) in
        (omega (arith, asked), omega (arith, met))

    either : (standing : Bool) → Fit (cond standing (k4_of w p S (24 * days)) no_sums)
    either true = all_fit
    either false = (zero-le, zero-le)

    pub sums_fit : Fit (k4_in part working possible days S)
    unfolding k4_in
    sums_fit = either (stands (length part) working (24 * days) && stands (length part) possible (24 * days))
