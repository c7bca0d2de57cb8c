use Rattle.tl_coherence.specs.statement.System.{with_messages}
use Rattle.tl_world.proofs.Queues.{moved-still}
use Rattle.tl_world.proofs.rings.Rings.send_out.Goals as goal

pub returns-in-Nothing-clause-moved : goal.returns-in-Nothing-clause-moved
unfolding with_messages
returns-in-Nothing-clause-moved g c = λ n s carried fits. rw c.in-Nothing.is (moved-still n c.args.self.now s carried)

pub returns-in-One-clause-moved : goal.returns-in-One-clause-moved
unfolding with_messages
returns-in-One-clause-moved g c =
    λ n s carried fits. rw c.in-One.is (c.send.ensures.moved n s carried (rw c.in-One.is at fits))

pub returns-in-Probes-clause-moved : goal.returns-in-Probes-clause-moved
returns-in-Probes-clause-moved g c =
    λ n s carried fits. rw c.in-Probes.is (c.send_probes.ensures.moved n s carried (rw c.in-Probes.is at fits))
