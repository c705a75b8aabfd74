-- Numbers 8 and 9 of a producer's stated figures, apart from its hours.
use Rattle.std.specs.Prelude.{Bool, ◌||◌}
use Rattle.rules.specs.declared.Stated.{Stated}
use Rattle.rules.specs.Month.{Producer}
use Rattle.rules.specs.Sheet.{producer_of}
use Rattle.rules.specs.Refusals.{too_high}

-- A producer without power: number 8 looks at none.
abbrev pub without_power : Stated → Producer
without_power x = producer_of x (λ i. 0) (λ i. 0) (λ i. 0)

-- 9, of attested capacity, deductible capacity and own needs.
unfoldable pub high_stated : Stated → Bool
high_stated x = too_high x.attested || (too_high x.deductible || too_high x.needs)
