use Rattle.tl_memory.proofs.states.Trees.{no-value}
use Rattle.tl_memory.proofs.block_map.BlockMap.new.Goals as goal

pub returns : goal.returns
returns g c = no-value _ c.new.ensures.items
