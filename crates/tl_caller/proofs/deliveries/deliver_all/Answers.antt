use Rattle.std.proofs.Common.{sym, ◌∙◌}
use Rattle.tl_coherence.specs.statement.Log.{logged}
use Rattle.tl_world.specs.statement.World.{IsWorld}
use Rattle.tl_caller.proofs.Bounds.{behind}
use Rattle.tl_caller.proofs.Promises.{bounded}
use Rattle.tl_caller.proofs.deliveries.deliver_all.Goals as goal

pub returns-clause-bound : goal.returns-clause-bound
unfolding IsWorld
returns-clause-bound g c =
    let (config, log, reached) = c.load-load.ensures.world in
    let (more, is) = behind c.args.deliveries.now c.run.new.outcomes log
    (c.requires.number ∙ sym c.run.ensures.number) c.requires.deliveries in
    bounded g.A.Agent.represents g.A.Agent.terms g.D.Directory.perm_of config _ _ more log
    (logged c.args.deliveries.now c.run.new.outcomes log) _ c.load-load.result reached
    (c.run.ensures.reached config log reached) is (c.load-load.ensures.load config log reached)
