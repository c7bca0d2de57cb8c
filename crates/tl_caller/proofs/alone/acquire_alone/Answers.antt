use Rattle.tl_caller.proofs.Lone.{acquired, if-brought}
use Rattle.tl_caller.proofs.alone.acquire_alone.Goals as goal

pub returns : goal.returns
returns g c = λ config log r.
    if-brought (acquired r.theorem config c.args.client c.args.block c.args.grow) c.ask_alone.result
    (c.ask_alone.ensures.brought config log r)
