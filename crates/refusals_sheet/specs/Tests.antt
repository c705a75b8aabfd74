-- The tests of numbers 8 to 12 and 18 where the hours are not read.
use Rattle.std.specs.Prelude.{Bool, List, [], ◌∷◌}
use Rattle.rules.specs.Month.{Producer, Month}
use Rattle.rules.specs.Refusals.{one_of, bad_share, too_high, high_row, bad_reference, high_consumer}
use Rattle.rules.specs.Refusals.{too_dear, bad_factor, bad_days, some_producer, some_row, some_consumer, Test}
use Rattle.rules.specs.Refusals.{test}

-- 9, in a producer's stated figures.
unfoldable pub high_figures : Producer → Bool
high_figures p = one_of (too_high p.attested ∷ too_high p.deductible ∷ too_high p.own_needs ∷ [])

-- 8, of some producer.
abbrev pub some_share : Month → Bool
some_share m = some_producer m (bad_share m.header)

-- 9, of some record: all but the hours.
abbrev pub some_high : Month → Bool
some_high m = one_of (some_producer m high_figures ∷ some_row m high_row ∷ some_consumer m high_consumer ∷ [])

-- 10, of some row.
abbrev pub some_reference : Month → Bool
some_reference m = some_row m (bad_reference m.header)

-- 11, of some row or consumer.
abbrev pub some_dear : Month → Bool
some_dear m = one_of (some_row m (λ r. too_dear r.price) ∷ some_consumer m (λ c. too_dear c.price) ∷ [])

-- 12, of some consumer.
abbrev pub some_factor : Month → Bool
some_factor m = some_consumer m (bad_factor m.header)

-- 18, of some row.
abbrev pub some_days : Month → Bool
some_days m = some_row m (bad_days m.header)

-- 8 to 12, then 18: the figures of the records, 9 of all but the hours.
unfoldable pub record_tests : Month → List Test
record_tests m =
    test 8 (some_share m)
    ∷ test 9 (some_high m)
    ∷ test 10 (some_reference m)
    ∷ test 11 (some_dear m)
    ∷ test 12 (some_factor m)
    ∷ test 18 (some_days m)
    ∷ []
