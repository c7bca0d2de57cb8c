use Rattle.tl_caller.proofs.Promises.{delivered}
use Rattle.tl_caller.proofs.deliveries.deliver_once.Goals as goal

pub returns : goal.returns
returns g c = λ config log r.
    delivered g.A.Agent.represents g.A.Agent.terms g.D.Directory.perm_of config _ _ log c.args.link c.args.channel
    c.step.result r (c.step.ensures.reached config log r) (c.step.ensures.outcome config log r)
