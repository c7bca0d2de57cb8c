use Rattle.tl_world.specs.statement.World.{IsWorld}
use Rattle.tl_caller.proofs.Lone.{written, if-brought}
use Rattle.tl_caller.proofs.alone.write_alone.Goals as goal

pub returns : goal.returns
unfolding IsWorld
returns g c =
    let (config, log, r) = c.ask_alone.ensures.world in
    if-brought (written r.theorem config c.args.client c.args.block c.args.bytes) c.ask_alone.result
    (c.ask_alone.ensures.brought config log r)
