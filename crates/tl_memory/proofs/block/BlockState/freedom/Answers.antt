use Rattle.tl_memory.proofs.block.BlockState.freedom.Goals as goal

pub returns : goal.returns
returns g c = λ n block t k given. k.free_is given
