use Rattle.std.proofs.Common.{rules}
use Rattle.tl_memory.proofs.values.ByteSets.{has-one}
use Rattle.tl_memory.proofs.byte_set.ByteSet.with_one.Goals as goal

pub returns : goal.returns
returns c = λ v lt. has-one c.args.self _ c.args.byte v (search rules) lt (search rules) (search rules)
