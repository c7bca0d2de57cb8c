use Rattle.std.proofs.Common.{arith}
use Rattle.tl_burst.proofs.Lanes.{block_size}
use Rattle.tl_random.proofs.text.first_bytes.Goals as goal

pub shared_ref_as_front-result : goal.shared_ref_as_front-result
shared_ref_as_front-result c = omega (arith, block_size c.args.size c.requires)
