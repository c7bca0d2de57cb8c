use Rattle.tl_world.proofs.WorldObservers.{seen-copy, seen-kept}
use Rattle.tl_world.proofs.world.World.copy.Goals as goal

pub returns-clause-copy : goal.returns-clause-copy
returns-clause-copy g c = λ config log r.
    seen-copy g.A.Agent.represents g.A.Agent.terms g.D.Directory.perm_of config c.self.inside.state log
    (rw (← c.self.view_is) at r) c.args.client c.args.block c.copy_at.result
    (rw c.from.ensures at c.copy_at.ensures.there) (rw c.from.ensures at c.copy_at.ensures.nowhere)

pub returns-clause-held : goal.returns-clause-held
returns-clause-held g c = λ config log r.
    let is = rw (← c.self.view_is) at r in
    seen-kept g.A.Agent.represents g.A.Agent.terms g.D.Directory.perm_of config c.self.inside.state log is c.args.client
    c.args.block c.copy_at.result
    (seen-copy g.A.Agent.represents g.A.Agent.terms g.D.Directory.perm_of config c.self.inside.state log is
    c.args.client c.args.block c.copy_at.result
    (rw c.from.ensures at c.copy_at.ensures.there) (rw c.from.ensures at c.copy_at.ensures.nowhere))
