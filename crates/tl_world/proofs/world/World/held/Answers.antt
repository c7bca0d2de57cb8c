use Rattle.tl_world.proofs.WorldObservers.{seen-held}
use Rattle.tl_world.proofs.world.World.held.Goals as goal

pub returns-clause-held : goal.returns-clause-held
returns-clause-held g c = λ config log r.
    seen-held g.A.Agent.represents g.A.Agent.terms g.D.Directory.perm_of config c.self.inside.state log
    (rw (← c.self.view_is) at r) c.args.client c.args.block c.held_at.result
    (rw c.from.ensures at c.held_at.ensures.there) (rw c.from.ensures at c.held_at.ensures.nowhere)
