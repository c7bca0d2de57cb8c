use Rattle.std.proofs.Common.{sym, ◌∙◌}
use Rattle.tl_client.proofs.messages.Telling.{handed-asked, unhanded}
use Rattle.tl_client.proofs.agent.Agent.ask_into.Goals as goal

pub returns-then-hands_out-clause-message : goal.returns-then-hands_out-clause-message
returns-then-hands_out-clause-message g c = λ e k.
    let message = c.ask-reply.ensures.message e k in
    rw c.unwrap_or.ensures (handed-asked (g.Self.Agent.terms c.args.self.now) c.args.operation.now e
    c.ask-reply.result.0 c.ask-reply.result.1 c.args.message.now (c.ask-reply.ensures.reply e k) message ∙ message)

pub returns-else-hands_out-clause-message : goal.returns-else-hands_out-clause-message
returns-else-hands_out-clause-message g c = λ e k.
    let message = c.ask-reply.ensures.message e k in
    unhanded c.ask-reply.result.0 c.ask-reply.result.1 c.args.message.now
    (sym (c.hands_out.ensures g.row.W c.args.message.now) ∙ c.if-hands_out.false)
    (handed-asked (g.Self.Agent.terms c.args.self.now) c.args.operation.now e c.ask-reply.result.0
    c.ask-reply.result.1 c.args.message.now (c.ask-reply.ensures.reply e k) message)
    ∙ message
