use Rattle.tl_world.specs.statement.World.{IsWorld}
use Rattle.tl_caller.proofs.Promises.{alone}
use Rattle.tl_caller.proofs.caller.held_beside_a_writer.Goals as goal

pub returns-in-Trunk : goal.returns-in-Trunk
unfolding IsWorld
returns-in-Trunk g c =
    let (config, log, reached) = c.held.ensures.world in
    alone g.A.Agent.represents g.A.Agent.terms g.D.Directory.perm_of config _ log c.args.writer c.args.other
    c.args.block c.held.result c.held-in-Trunk.result reached c.requires
    (c.held.ensures.held config log reached) (c.held-in-Trunk.ensures.held config log reached) c.in-Trunk.is
