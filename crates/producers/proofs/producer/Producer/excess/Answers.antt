use Rattle.producers.proofs.Cuts.{excess_is}
use Rattle.producers.proofs.producer.Producer.excess.Goals as goal

pub returns : goal.returns
returns c =
    let x = c.args.self.now in
    excess_is x.sheet.layout x.sheet.bytes.now x.p x.counted x.read
    (rw (
      c.less-2.ensures,
      c.stated-2.ensures.0,
      c.less.ensures,
      c.stated.ensures.0,
      c.summed.ensures,
      c.sold.ensures.sum,
    ))
