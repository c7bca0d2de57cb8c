use Rattle.std.proofs.Common.{rules, arith, ◌+◌, ◌-◌, length}
use Rattle.tl_ports.proofs.Places.{next_message}
use Rattle.tl_ports.proofs.outgoing.Outgoing.send_all.Goals as goal

pub loop-message-preserved : goal.loop-message-preserved
loop-message-preserved g c = record {
  room = c.send.ensures.room (length c.args.handed.now - (c.loop-message.message-index + 1))
      (omega (arith, c.loop-message.invariant.room, c.loop-message-test.true));
  sent = λ at ch.
      next_message at ch c.args.handed.now c.loop-message.message-index _ _ _ _ c.loop-message-test.true (search rules)
      (c.send.ensures.behind at ch) (c.loop-message.invariant.sent at ch);
}
