use Rattle.tl_world.specs.statement.World.{IsWorld}
use Rattle.tl_caller.proofs.Promises.{promised}
use Rattle.tl_caller.proofs.caller.step_once.Goals as goal

pub returns : goal.returns
unfolding IsWorld
returns g c =
    let (config, log, reached) = c.step.ensures.world in (
      config,
      log,
      promised g.A.Agent.represents g.A.Agent.terms g.D.Directory.perm_of config _ _
          (c.step.ensures.reached config log reached),
    )
