use Rattle.tl_caller.proofs.deliveries.moves.Goals as goal

pub returns : goal.returns
returns g c = λ config log r. (c.step.result, c.is_moving.ensures, c.step.ensures.reached config log r)
