use Rattle.std.proofs.Common.{refl}
use Rattle.tl_manager.proofs.blocks.Answering.{block_state-performed}
use Rattle.tl_manager.proofs.manager.block_state.BlockState.perform.Goals as goal

pub returns-clause-done : goal.returns-clause-done
returns-clause-done g c = λ config t memory at block_state.
    rw c.access_answer.ensures (block_state-performed g.D.Directory.perm_of config c.args.self.now _ c.args.number
    c.args.link c.args.request.now c.perform-answer.result t memory
    c.requires.access refl refl c.set.ensures.count c.set.ensures.trackers
    (c.perform-answer.ensures.bytes memory block_state.bytes)
    (c.perform-answer.ensures.answer memory block_state.bytes) at block_state)
