use Rattle.std.proofs.Common.{rules}
use Rattle.tl_caller.proofs.Lone.{brought}
use Rattle.tl_caller.proofs.alone.ask_alone.Goals as goal

pub returns-in-Replied-Started-clause-brought : goal.returns-in-Replied-Started-clause-brought
returns-in-Replied-Started-clause-brought g c = λ config log r.
    brought g.A.Agent.represents g.A.Agent.terms g.D.Directory.perm_of config c.args.client c.args.operation
    c.args.block _ _ _ log c.drain.result c.in-Replied-Started.reply-0 c.drain-in-Replied-Started.result c.step.result
    c.held.result (search rules) (c.drain.ensures.drained config log r) (c.drain.ensures.reached config log r)
    (c.step.ensures.reached config) (c.drain-in-Replied-Started.ensures.drained config)
    (c.drain-in-Replied-Started.ensures.reached config) (c.held.ensures.held config)
