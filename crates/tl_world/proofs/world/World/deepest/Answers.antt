use Rattle.tl_world.proofs.WorldObservers.{seen-deepest, seen-room}
use Rattle.tl_world.proofs.world.World.deepest.Goals as goal

pub returns-clause-deepest : goal.returns-clause-deepest
returns-clause-deepest g c = λ config log r.
    seen-deepest g.A.Agent.represents g.A.Agent.terms g.D.Directory.perm_of config c.self.inside.state log
    (rw (← c.self.view_is) at r) c.args.link.0 c.args.channel c.deepest.result
    c.deepest.ensures.there c.deepest.ensures.nowhere

pub returns-clause-room : goal.returns-clause-room
returns-clause-room g c = λ config log r.
    let is = rw (← c.self.view_is) at r in
    seen-room g.A.Agent.represents g.A.Agent.terms g.D.Directory.perm_of config c.self.inside.state log is c.args.link.0
    c.args.channel c.deepest.result
    (seen-deepest g.A.Agent.represents g.A.Agent.terms g.D.Directory.perm_of config c.self.inside.state log is
    c.args.link.0 c.args.channel c.deepest.result
    c.deepest.ensures.there c.deepest.ensures.nowhere)
