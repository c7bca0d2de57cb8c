use Rattle.std.proofs.Common.{rules}
use Rattle.tl_world.proofs.Movables.{moves-anyway, moves-client, moves-manager}
use Rattle.tl_world.proofs.network.Network.stalls.Goals as goal

pub returns-then-is_to_client : goal.returns-then-is_to_client
returns-then-is_to_client g c = λ config s h below.
    moves-client g.A.Agent.represents g.A.Agent.terms g.D.Directory.perm_of config c.args.self.now s h c.args.link
    c.args.channel below c.args.beat.now
    c.stalls_at.result (search rules) (rw c.from.ensures at c.stalls_at.ensures.there)

pub returns-else-is_to_client : goal.returns-else-is_to_client
returns-else-is_to_client g c = λ config s h below.
    moves-manager g.A.Agent.represents g.A.Agent.terms g.D.Directory.perm_of config c.args.self.now s h c.args.link
    c.args.channel below c.args.beat.now c.stalls.result (search rules) c.stalls.ensures

pub returns-then-not-may_wait : goal.returns-then-not-may_wait
returns-then-not-may_wait g c = λ config s h below.
    moves-anyway g.A.Agent.represents g.A.Agent.terms g.D.Directory.perm_of config c.args.self.now s h c.args.link
    c.args.channel below c.args.beat.now (search rules)
