use Rattle.std.proofs.Common.{refl}
use Rattle.tl_memory.proofs.states.States.{watched-state}
use Rattle.tl_memory.proofs.block.BlockState.watch.Goals as goal

pub returns : goal.returns
returns g c = λ n block x t k free now. watched-state _ c.args.self.now n block c.args.moment x t k refl refl
    c.watch.ensures free now c.last_free-self.ensures
