use Rattle.tl_memory.proofs.states.States.{all-free, state-first}
use Rattle.tl_memory.proofs.block.BlockState.new.Goals as goal

pub returns : goal.returns
returns g c = λ n block. state-first _ n block (c.new.ensures g.row.W n block) c.new-2.ensures.items c.new-3.ensures all-free
