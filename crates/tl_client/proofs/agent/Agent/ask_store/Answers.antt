use Rattle.std.proofs.Common.{sym}
use Rattle.tl_client.proofs.endpoint.Words.{store-silent}
use Rattle.tl_client.proofs.agent.Agent.ask_store.Goals as goal

pub returns-clause-message : goal.returns-clause-message
returns-clause-message g c = λ e k.
    sym (store-silent (g.Self.Agent.terms c.args.self.now) c.args.address c.args.size c.args.value e).message
