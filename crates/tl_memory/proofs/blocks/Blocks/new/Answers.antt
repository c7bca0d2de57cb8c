use Rattle.std.proofs.Common.{refl}
use Rattle.tl_memory.proofs.states.Tables.{blocks-first}
use Rattle.tl_memory.proofs.blocks.Blocks.new.Goals as goal

pub returns : goal.returns
returns g c = λ n. blocks-first _ n c.new-2.ensures refl
