-- The result has the length it states, every figure fits its field, and each is read back from the result's
-- bytes at its place. Assumes nothing.
use mathlib.Core.Path.{◌≡◌}
use mathlib.Core.List.{List, ◌++◌}
use Prim.Native.Nat.{ℕ, ◌+◌, ◌*◌, ◌<◌}
use native.Mathlib.Nat.{add-zero}
use native.Mathlib.Omega.{arith}
use lib.ListN.{length, length-append}
use Rattle.rules.specs.Month.{Month}
use Rattle.rules.specs.Limits.{MonthLimits}
use Rattle.rules.specs.Fields.{laid, width_of, joined}
use Rattle.rules.specs.Result.{
  row_figures,
  consumer_figures,
  total_figures,
  row_fields,
  consumer_fields,
  total_fields,
  head_fields,
  result_length,
  row_record,
  consumer_record,
  result_of,
  row_record_at,
  consumer_record_at,
  totals_at,
  read_row,
  read_consumer,
  read_totals,
}
use Rattle.laws.proofs.Fields.{
  Holds,
  holds_left,
  holds_right,
  length-laid,
  Fit,
  read_laid,
  length-joined,
  held_record,
}
use Rattle.laws.proofs.Figures as Figures

module _ (m : Month) where
  length-row : (j : ℕ) → length (row_record m j) ≡ 16
  unfolding row_record width_of
  length-row j = length-laid (row_fields (row_figures m j))

  length-consumer : (c : ℕ) → length (consumer_record m c) ≡ 25
  unfolding consumer_record width_of
  length-consumer c = length-laid (consumer_fields (consumer_figures m c))

  length_head : length (laid (head_fields m.header)) ≡ 5
  unfolding width_of
  length_head = length-laid (head_fields m.header)

  length_totals : length (laid (total_fields (total_figures m))) ≡ 16
  unfolding width_of
  length_totals = length-laid (total_fields (total_figures m))

  length-rows : length (joined (row_record m) m.header.rows) ≡ 16 * m.header.rows
  length-rows = length-joined (row_record m) 16 length-row m.header.rows

  length-consumers : length (joined (consumer_record m) m.header.consumers) ≡ 25 * m.header.consumers
  length-consumers = length-joined (consumer_record m) 25 length-consumer m.header.consumers

  -- The result is as long as it says.
  pub result_has_length : length (result_of m) ≡ result_length m.header
  unfolding result_of result_length
  result_has_length =
      simp (length-append, length_head, length_totals, length-rows, length-consumers) (omega arith)

-- Every figure of an accepted month fits its field.
module _ (m : Month) (w : MonthLimits m) where
  pub row_fits : (j : ℕ) → j < m.header.rows → Fit (row_fields (row_figures m j))
  row_fits j l = (
    omega (arith, Figures.cut_le m w j l),
    (omega (arith, Figures.actual-le m w j l), (omega (arith, Figures.payment-le m w j l), tt)),
  )

  pub consumer_fits : (c : ℕ) → c < m.header.consumers → Fit (consumer_fields (consumer_figures m c))
  consumer_fits c l = (
    omega (arith, Figures.credit-le m w c),
    (
      omega (arith, Figures.percent-le m w c l),
      (
        omega (arith, Figures.band-le m w c),
        (omega (arith, Figures.volume-le m w c l), (omega (arith, Figures.charge-le m w c l), tt)),
      ),
    ),
  )

  pub totals_fit : Fit (total_fields (total_figures m))
  totals_fit = (omega (arith, Figures.paid_le m w), (omega (arith, Figures.charged_le m w), tt))

  pub head_fits : Fit (head_fields m.header)
  head_fits = (omega (arith, Figures.length_le m w), (omega arith, tt))

  -- A buffer that begins with the result of such a month.
  module _ (out : List ℕ) (h : Holds out 0 (result_of m)) where
    to_consumers : Holds out 0 (laid (head_fields m.header) ++ joined (row_record m) m.header.rows ++ joined (consumer_record m) m.header.consumers)
    to_consumers = unfold result_of in holds_left out 0 _ _ h

    rows : Holds out 5 (joined (row_record m) m.header.rows)
    rows = holds_right out 0 (laid (head_fields m.header)) _ (omega (arith, length_head m)) (holds_left out 0 _ _ to_consumers)

    row : (j : ℕ) → j < m.header.rows → Holds out (row_record_at j) (row_record m j)
    row j l =
        unfold row_record_at in held_record (row_record m) 16 (length-row m) out 5 m.header.rows rows j l

    consumers : Holds out (row_record_at m.header.rows) (joined (consumer_record m) m.header.consumers)
    consumers = holds_right out 0 (laid (head_fields m.header) ++ joined (row_record m) m.header.rows) _ past to_consumers
      where
        past : 0 + length (laid (head_fields m.header) ++ joined (row_record m) m.header.rows)
            ≡ row_record_at m.header.rows
        past = unfold row_record_at in simp (length-append, length_head m, length-rows m) (omega arith)

    consumer : (c : ℕ) → c < m.header.consumers
        → Holds out (consumer_record_at m.header c) (consumer_record m c)
    consumer c l =
        unfold consumer_record_at in held_record (consumer_record m) 25 (length-consumer m) out (row_record_at m.header.rows) m.header.consumers consumers c l

    totals : Holds out (totals_at m.header) (laid (total_fields (total_figures m)))
    totals = unfold result_of in holds_right out 0 (laid (head_fields m.header) ++ joined (row_record m) m.header.rows ++ joined (consumer_record m) m.header.consumers) _ past h
      where
        past : 0 + length (laid (head_fields m.header) ++ joined (row_record m) m.header.rows ++ joined (consumer_record m) m.header.consumers) ≡ totals_at m.header
        past = unfold totals_at consumer_record_at row_record_at in simp (length-append, length_head m, length-rows m, length-consumers m) (omega arith)

    -- What is read is what the definitions give.
    pub row_read : (j : ℕ) → j < m.header.rows → read_row out j ≡ row_figures m j
    unfolding row_record read_row
    row_read j l =
        let r = read_laid out (row_record_at j) (row_fields (row_figures m j)) (row_fits j l) (row j l) in
        rw (rw add-zero at r.0, r.1.0, r.1.1.0)

    pub consumer_read : (c : ℕ) → c < m.header.consumers → read_consumer m.header out c ≡ consumer_figures m c
    unfolding consumer_record read_consumer
    consumer_read c l =
        let r = read_laid out (consumer_record_at m.header c) (consumer_fields (consumer_figures m c)) (consumer_fits c l) (consumer c l) in
        rw (rw add-zero at r.0, r.1.0, r.1.1.0, r.1.1.1.0, r.1.1.1.1.0)

    pub totals_read : read_totals m.header out ≡ total_figures m
    unfolding read_totals
    totals_read =
        let r = read_laid out (totals_at m.header) (total_fields (total_figures m)) totals_fit totals in
        rw (rw add-zero at r.0, r.1.0)
