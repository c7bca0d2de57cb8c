use Rattle.std.proofs.Common.{◌∷◌}
use Rattle.tl_coherence.specs.declared.event.Event.TheVariants.{Deliver}
use Rattle.tl_world.specs.statement.World.{IsWorld}
use Rattle.tl_world.proofs.Happened.{reached-step}
use Rattle.tl_world.proofs.world.World.deliver.Goals as goal

pub returns-clause-reached : goal.returns-clause-reached
returns-clause-reached g c = λ config log r.
    (reached-step g.A.Agent.represents g.A.Agent.terms g.D.Directory.perm_of config c.self.inside.state _ log
    (Deliver c.args.link c.args.channel) c.deliver.new.outcome (rw (← c.self.view_is) at r) tt
    (c.deliver.ensures config) c.count_delivery.ensures.requests c.count_delivery.ensures.releases).0

pub returns-clause-outcome : goal.returns-clause-outcome
returns-clause-outcome g c = λ config log r.
    (reached-step g.A.Agent.represents g.A.Agent.terms g.D.Directory.perm_of config c.self.inside.state _ log
    (Deliver c.args.link c.args.channel) c.deliver.new.outcome (rw (← c.self.view_is) at r) tt
    (c.deliver.ensures config) c.count_delivery.ensures.requests c.count_delivery.ensures.releases).1

pub invariant_of-self : goal.invariant_of-self
unfolding IsWorld
invariant_of-self g c =
    let (config, log, reached) = c.self.invariant.1 in
    let is = reached-step g.A.Agent.represents g.A.Agent.terms g.D.Directory.perm_of config c.self.inside.state _ log
    (Deliver c.args.link c.args.channel) c.deliver.new.outcome reached tt (c.deliver.ensures config)
    c.count_delivery.ensures.requests c.count_delivery.ensures.releases in
    (c.self.invariant.0, (config, (Deliver c.args.link c.args.channel, c.deliver.new.outcome) ∷ log, is.0))
