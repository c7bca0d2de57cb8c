use Rattle.std.proofs.Common.{refl}
use Rattle.tl_memory.proofs.values.ByteSets.{has-all}
use Rattle.tl_memory.proofs.byte_set.ByteSet.all.Goals as goal

pub returns : goal.returns
returns c = λ v lt. has-all _ v refl lt
