use Rattle.tl_world.proofs.Movables.{movable-empty, movable-first}
use Rattle.tl_world.proofs.network.Network.moves.Goals as goal

pub returns-in-None : goal.returns-in-None
returns-in-None g c = λ config s h.
    movable-empty g.A.Agent.represents g.A.Agent.terms g.D.Directory.perm_of config c.args.self.now s h c.args.link
    c.args.channel c.in-None.ensures.there

pub returns-in-Some : goal.returns-in-Some
returns-in-Some g c = λ config s h.
    movable-first g.A.Agent.represents g.A.Agent.terms g.D.Directory.perm_of config c.args.self.now s h c.args.link
    c.args.channel c.in-Some.beat.now c.stalls.result
    c.in-Some.ensures.there c.in-Some.ensures.nowhere
    (c.stalls.ensures config s h)
