use Rattle.rules.specs.Transfers.{transfer_outcome}
use Rattle.capacity.proofs.Signed.{done_small, handed_on}
use Rattle.capacity.proofs.capacity_transfer.Goals as goal

pub in_c-requires : goal.in_c-requires
unfolding transfer_outcome
in_c-requires c = done_small _ c.transfer.ensures.answer

pub returns : goal.returns
returns c =
    record {
      answer = handed_on c.in_c.type_inv c.in_c.ensures c.transfer.ensures.answer;
      sheet =
          c.transfer.ensures.sheet;
    }
