use Rattle.std.proofs.Common.{refl}
use Rattle.tl_client.specs.statement.Answer.{replied}
use Rattle.tl_world.proofs.Stepping.{steps-asked}
use Rattle.tl_world.proofs.network.Network.ask.Goals as goal

pub returns : goal.returns
returns g c = λ config s h room.
    steps-asked g.A.Agent.represents g.A.Agent.terms g.D.Directory.perm_of config c.args.self.now _ s c.args.client
    c.args.operation.now (replied c.ask_at-reply.result c.ask_at-reply.new.message) h
    c.requires.inside (rw c.from.ensures at c.ask_at-reply.ensures) refl c.send_started.ensures.kept
    c.send_started.ensures.moved room
