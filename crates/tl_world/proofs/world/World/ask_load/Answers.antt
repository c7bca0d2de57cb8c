use Rattle.std.proofs.Common.{◌∷◌, refl}
use Rattle.tl_client.specs.declared.operation.Op.TheVariants.{Load}
use Rattle.tl_client.proofs.endpoint.Words.{load-silent}
use Rattle.tl_coherence.specs.declared.event.Event.TheVariants.{Ask}
use Rattle.tl_world.specs.statement.Answered.{answered}
use Rattle.tl_world.specs.statement.World.{IsWorld}
use Rattle.tl_world.proofs.Words.{reached-silent}
use Rattle.tl_world.proofs.world.World.ask_load.Goals as goal

pub returns-clause-reached : goal.returns-clause-reached
returns-clause-reached g c = λ config log r.
    (reached-silent g.A.Agent.represents g.A.Agent.terms g.D.Directory.perm_of config c.self.inside.state _ log
    c.args.client (Load c.args.address c.args.size) c.ask_load.result
    (rw (← c.self.view_is) at r) tt (λ t e. (load-silent t c.args.address c.args.size e).0.reply)
    (c.ask_load.ensures config) refl).0

pub returns-clause-outcome : goal.returns-clause-outcome
returns-clause-outcome g c = λ config log r.
    (reached-silent g.A.Agent.represents g.A.Agent.terms g.D.Directory.perm_of config c.self.inside.state _ log
    c.args.client (Load c.args.address c.args.size) c.ask_load.result
    (rw (← c.self.view_is) at r) tt (λ t e. (load-silent t c.args.address c.args.size e).0.reply)
    (c.ask_load.ensures config) refl).1

pub invariant_of-self : goal.invariant_of-self
unfolding IsWorld
invariant_of-self g c =
    let (config, log, reached) = c.self.invariant.1 in
    let is = reached-silent g.A.Agent.represents g.A.Agent.terms g.D.Directory.perm_of config c.self.inside.state _ log
    c.args.client (Load c.args.address c.args.size) c.ask_load.result reached tt
    (λ t e. (load-silent t c.args.address c.args.size e).0.reply) (c.ask_load.ensures config) refl in (
      c.self.invariant.0,
      (
        config,
        (
          Ask c.args.client (Load c.args.address c.args.size),
          answered c.ask_load.result,
        ) ∷ log,
        is.0,
      ),
    )
