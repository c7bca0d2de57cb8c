use Rattle.std.proofs.Common.{refl}
use Rattle.tl_manager.proofs.blocks.Taking.{block_state-acked}
use Rattle.tl_manager.proofs.manager.block_state.BlockState.acknowledge.Goals as goal

pub returns-clause-done : goal.returns-clause-done
returns-clause-done g c = λ config link x e same is block_state.
    block_state-acked g.D.Directory.perm_of config c.args.self.now _ c.args.sink link x e refl refl refl
    c.set.ensures.count c.set.ensures.trackers same is block_state
