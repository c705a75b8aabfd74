use Rattle.rules.specs.Averaging.{average_outcome}
use Rattle.capacity.proofs.Signed.{done_small, handed_on}
use Rattle.capacity.proofs.capacity_average.Goals as goal

pub in_c-requires : goal.in_c-requires
unfolding average_outcome
in_c-requires c = done_small _ c.average.ensures.answer

pub returns : goal.returns
returns c =
    record {
      answer = handed_on c.in_c.type_inv c.in_c.ensures c.average.ensures.answer;
      sheet =
          c.average.ensures.sheet;
    }
