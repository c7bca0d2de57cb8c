use Rattle.std.proofs.Common.{◌≡◌, Some, sym}
use Rattle.tl_client.proofs.endpoint.Words.{handed-there}
use Rattle.tl_client.specs.statement.Answer.{handed}
use Rattle.tl_coherence.specs.statement.System.{with_messages}
use Rattle.tl_world.proofs.Moving.{sent-if-none}
use Rattle.tl_world.proofs.step.send_started.Goals as goal

pub returns-then-hands_out-clause-moved : goal.returns-then-hands_out-clause-moved
unfolding with_messages
returns-then-hands_out-clause-moved g c = λ n s carried fits.
    let there : handed c.args.reply c.args.message.now ≡ Some c.args.message.now = handed-there c.args.reply
    c.args.message.now (sym (c.if-hands_out.ensures g.row.W c.args.message.now)) in
    rw there (c.send.ensures.moved n s carried (rw there at fits))

pub returns-else-hands_out-clause-moved : goal.returns-else-hands_out-clause-moved
returns-else-hands_out-clause-moved g c = λ n s carried fits.
    sent-if-none n c.args.rings.now s c.args.link.0 _ (sym (c.if-hands_out.ensures g.row.W c.args.message.now)) carried
