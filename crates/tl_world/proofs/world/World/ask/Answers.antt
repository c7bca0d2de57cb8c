use Rattle.std.proofs.Common.{◌∷◌}
use Rattle.tl_coherence.specs.declared.event.Event.TheVariants.{Ask}
use Rattle.tl_world.specs.statement.World.{IsWorld}
use Rattle.tl_world.proofs.Happened.{reached-step}
use Rattle.tl_world.proofs.world.World.ask.Goals as goal

pub returns-clause-reached : goal.returns-clause-reached
returns-clause-reached g c = λ config log r.
    (reached-step g.A.Agent.represents g.A.Agent.terms g.D.Directory.perm_of config c.self.inside.state _ log
    (Ask c.args.client c.args.operation.now) c.ask_if_there.new.outcome (rw (← c.self.view_is) at r)
    c.prove_typed.ensures
    (c.ask_if_there.ensures config) (c.count_ask.ensures.requests c.args.client) (c.count_ask.ensures.releases c.args.client)).0

pub returns-clause-outcome : goal.returns-clause-outcome
returns-clause-outcome g c = λ config log r.
    (reached-step g.A.Agent.represents g.A.Agent.terms g.D.Directory.perm_of config c.self.inside.state _ log
    (Ask c.args.client c.args.operation.now) c.ask_if_there.new.outcome (rw (← c.self.view_is) at r)
    c.prove_typed.ensures
    (c.ask_if_there.ensures config) (c.count_ask.ensures.requests c.args.client) (c.count_ask.ensures.releases c.args.client)).1

pub invariant_of-self : goal.invariant_of-self
unfolding IsWorld
invariant_of-self g c =
    let (config, log, reached) = c.self.invariant.1 in
    let is = reached-step g.A.Agent.represents g.A.Agent.terms g.D.Directory.perm_of config c.self.inside.state _ log
    (Ask c.args.client c.args.operation.now) c.ask_if_there.new.outcome reached c.prove_typed.ensures (c.ask_if_there.ensures config)
    (c.count_ask.ensures.requests c.args.client) (c.count_ask.ensures.releases c.args.client) in
    (c.self.invariant.0, (config, (Ask c.args.client c.args.operation.now, c.ask_if_there.new.outcome) ∷ log, is.0))
