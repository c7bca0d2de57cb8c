use Rattle.std.proofs.Common.{Ok, ap, ◌∙◌}
use Rattle.tl_client.proofs.messages.Telling.{tellable}
use Rattle.tl_client.proofs.agent.Agent.offer_into.Goals as goal

pub returns-clause-answer : goal.returns-clause-answer
returns-clause-answer g c = λ e k.
    let is = c.in_ok-verdict.ensures.answer e k in
    ap Ok (c.of.ensures (tellable (g.Self.Agent.terms c.args.self.now) c.args.channel c.args.beat.now e
    c.in_ok-verdict.verdict c.in_ok-verdict.message is)) ∙ is
