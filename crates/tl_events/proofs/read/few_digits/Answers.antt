use Rattle.std.proofs.Common.{arith}
use Rattle.tl_events.proofs.Pieces.{few-bytes}
use Rattle.tl_events.proofs.read.few_digits.Goals as goal

pub returns-clause-count : goal.returns-clause-count
returns-clause-count c = omega (arith, few-bytes c.args.size c.requires)

pub returns-clause-few : goal.returns-clause-few
returns-clause-few c = omega (arith, few-bytes c.args.size c.requires)
