use Rattle.std.proofs.Common.{refl}
use Rattle.tl_manager.{specs.code.Outbox.messages_of, specs.code.Trackers.tracker_at, proofs.blocks.Completed.has-room}
use Rattle.tl_manager.{proofs.blocks.Completed.done-served}
use Rattle.tl_manager.proofs.manager.block_state.BlockState.serve.Goals as goal

pub returns-in-None-clause-done : goal.returns-in-None-clause-done
returns-in-None-clause-done g c = λ config x e few is block_state.
    absurd (has-room config (tracker_at c.args.self.now.trackers) c.args.link x c.args.request.now e
    (λ n. block_state.tracked n tt) (rw block_state.count at (c.in-None.ensures.none refl)) is)

pub returns-in-Some-clause-done : goal.returns-in-Some-clause-done
returns-in-Some-clause-done g c = λ config x e few is block_state.
    done-served g.D.Directory.perm_of config c.args.self.now c.begin.new.self
    (messages_of c.begin.new.outbox) c.in-Some.number c.args.link x c.args.request.now e is.filled
    c.in-Some.ensures.free.1 c.in-Some.ensures.free.2
    (λ t memory at without. c.begin.ensures.done config t memory few at without) is block_state
