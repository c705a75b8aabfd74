-- What is read of a record, in every sheet: nothing where the sheet ends before it does.
use Rattle.std.specs.Prelude.{ℕ, ◌+◌, cond, List, length, ltb}
use Rattle.rules.specs.declared.Layout.{Layout}
use Rattle.rules.specs.declared.Stated.{Stated}
use Rattle.rules.specs.declared.Row.{Row}
use Rattle.rules.specs.declared.Consumer.{Consumer}
use Rattle.rules.specs.Sheet.{
  stated_width,
  hours_width,
  row_width,
  consumer_width,
  producer_at,
  hours_at,
  row_at,
  consumer_at,
  stated_of,
  row_of,
  consumer_of,
}
use Rattle.rules.specs.Outcome.{Stretch}

-- Nothing stated.
abbrev pub none_stated : Stated
none_stated =
    record {
      attested = 0;
      deductible = 0;
      needs = 0;
      upward = 0;
      downward = 0;
      plan = 0;
      k3 = 0;
      k6 = 0;
      k7 = 0;
      k8 = 0;
      k9 = 0;
      k10 = 0;
    }

-- The stated figures of producer p.
unfoldable pub stated_in : Layout → List ℕ → ℕ → Stated
stated_in l s p =
    cond (ltb (length s) (producer_at l p + stated_width)) none_stated (stated_of s (producer_at l p))

-- The stretch of producer p's hours in a sheet of so many bytes; an empty one stands at place 0.
unfoldable pub stretch_in : Layout → ℕ → ℕ → Stretch
stretch_in l bytes p =
    cond (ltb bytes (hours_at l p + hours_width l.header))
    (record { place = 0; bytes = 0 })
    (record { place = hours_at l p; bytes = hours_width l.header })

-- No row.
abbrev pub no_row : Row
no_row = record { producer = 0; consumer = 0; volume = 0; price = 0; first = 0; last = 0 }

-- Row j.
unfoldable pub row_in : Layout → List ℕ → ℕ → Row
row_in l s j = cond (ltb (length s) (row_at l j + row_width l)) no_row (row_of l s (row_at l j))

-- No consumer.
abbrev pub no_consumer : Consumer
no_consumer = record { contract = 0; peak = 0; supplier = 0; grid = 0; z = 0; price = 0 }

-- Consumer c.
unfoldable pub consumer_in : Layout → List ℕ → ℕ → Consumer
consumer_in l s c =
    cond (ltb (length s) (consumer_at l c + consumer_width l)) no_consumer (consumer_of s (consumer_at l c))
