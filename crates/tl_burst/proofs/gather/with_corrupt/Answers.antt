use Rattle.tl_burst.proofs.Bits.{bit_here, bit_earlier}
use Rattle.tl_burst.proofs.gather.with_corrupt.Goals as goal

pub returns-clause-here : goal.returns-clause-here
returns-clause-here c = bit_here c.args.i c.args.bits c.from.result c.args.set c.from.ensures c.requires.blank
    c.requires.inside

pub returns-clause-earlier : goal.returns-clause-earlier
returns-clause-earlier c = λ k lt. bit_earlier c.args.i c.args.bits c.from.result k c.args.set c.from.ensures
    c.requires.inside lt
