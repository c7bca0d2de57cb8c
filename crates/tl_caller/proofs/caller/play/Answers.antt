use Rattle.std.proofs.Common.{[]}
use Rattle.tl_caller.proofs.Promises.{promised}
use Rattle.tl_caller.proofs.caller.play.Goals as goal

pub returns-clause-happened : goal.returns-clause-happened
returns-clause-happened g c =
    promised g.A.Agent.represents g.A.Agent.terms g.D.Directory.perm_of c.args.config _ _
    (c.run.ensures.reached c.args.config [] c.in_ok-world.ensures)

pub returns-clause-drained : goal.returns-clause-drained
returns-clause-drained g c =
    let happened = c.run.ensures.reached c.args.config [] c.in_ok-world.ensures in (
      c.drain.result,
      c.drain.ensures.drained c.args.config _ happened,
      promised g.A.Agent.represents g.A.Agent.terms g.D.Directory.perm_of c.args.config _ _
          (c.drain.ensures.reached c.args.config _ happened),
    )
