use Rattle.std.proofs.Common.{refl}
use Rattle.std.proofs.lemmas.Result.{err_from_is_err_and}
use Rattle.tl_world.proofs.world.World.replay.Goals as goal

pub returns-in_err-world : goal.returns-in_err-world
returns-in_err-world g c = let p = err_from_is_err_and c.from_residual.result c.from_residual.ensures.1 in
    rw (p.1, p.2) (c.in_err-world.ensures, refl)

pub returns : goal.returns
returns g c = c.run.ensures.reached c.args.config _ c.in_ok-world.ensures
