use Rattle.std.proofs.Common.{sym}
use Rattle.tl_world.proofs.Moving.{sent-if-none}
use Rattle.tl_world.proofs.step.send_answer.Goals as goal

pub returns-then-hands_out-clause-moved : goal.returns-then-hands_out-clause-moved
returns-then-hands_out-clause-moved g c = rw c.message.ensures at c.send_if_any.ensures.moved

pub returns-else-hands_out-clause-moved : goal.returns-else-hands_out-clause-moved
returns-else-hands_out-clause-moved g c = λ n s carried fits.
    sent-if-none n c.args.rings.now s c.args.link.0 _
    (sym (c.if-hands_out.ensures g.row.W c.args.bytes.now)) carried
