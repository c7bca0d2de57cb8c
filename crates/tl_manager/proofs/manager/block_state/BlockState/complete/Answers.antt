use Rattle.tl_manager.specs.code.Outbox.{messages_of}
use Rattle.tl_manager.proofs.blocks.Completed.{done-reported, done-acked}
use Rattle.tl_manager.proofs.manager.block_state.BlockState.complete.Goals as goal

pub returns-in-C-clause-done : goal.returns-in-C-clause-done
returns-in-C-clause-done g c = λ config x e few is block_state.
    done-reported g.D.Directory.perm_of config c.args.self.now c.take.new.self (messages_of c.take.new.outbox)
    c.args.link x c.in-C.report e
    (λ y message before. c.take.ensures.done config y e message before) (rw c.in-C.is at is) block_state

pub returns-in-E-clause-done : goal.returns-in-E-clause-done
returns-in-E-clause-done g c = λ config x e few is block_state.
    done-acked g.D.Directory.perm_of config c.args.self.now _ c.args.link x c.in-E.ack e
    (λ y same taken before. c.acknowledge.ensures.done config c.args.link y e same taken before) (rw c.in-E.is at is)
    block_state
