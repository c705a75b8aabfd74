use Rattle.capacity.proofs.Signed.{settled_2015_small, handed_on}
use Rattle.capacity.proofs.capacity_settle_2015.Goals as goal

pub in_c-requires : goal.in_c-requires
in_c-requires c = settled_2015_small _ _ c.settle_2015.ensures.answer

pub returns : goal.returns
returns c =
    record {
      answer = handed_on c.in_c.type_inv c.in_c.ensures c.settle_2015.ensures.answer;
      buffer =
          c.settle_2015.ensures.buffer;
    }
