use Rattle.std.proofs.Common.{sym}
use Rattle.tl_client.proofs.endpoint.Words.{load-silent}
use Rattle.tl_client.proofs.agent.Agent.ask_load.Goals as goal

pub returns-clause-message : goal.returns-clause-message
returns-clause-message g c = λ e k.
    sym (load-silent (g.Self.Agent.terms c.args.self.now) c.args.address c.args.size e).0.message
