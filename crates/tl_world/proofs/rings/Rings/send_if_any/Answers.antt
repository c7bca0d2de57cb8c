use Rattle.tl_coherence.specs.statement.System.{with_messages}
use Rattle.tl_world.proofs.Queues.{moved-still}
use Rattle.tl_world.proofs.rings.Rings.send_if_any.Goals as goal

pub returns-in-None-clause-moved : goal.returns-in-None-clause-moved
unfolding with_messages
returns-in-None-clause-moved g c = λ n s carried fits. rw c.in-None.is (moved-still n c.args.self.now s carried)

pub returns-in-Some-clause-moved : goal.returns-in-Some-clause-moved
unfolding with_messages
returns-in-Some-clause-moved g c =
    λ n s carried fits. rw c.in-Some.is (c.send.ensures.moved n s carried (rw c.in-Some.is at fits))
