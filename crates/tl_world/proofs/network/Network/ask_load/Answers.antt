use Rattle.std.proofs.Common.{refl, arith}
use Rattle.tl_client.specs.declared.operation.Op.TheVariants.{Load}
use Rattle.tl_coherence.specs.declared.event.Event.TheVariants.{Ask}
use Rattle.tl_world.proofs.Stepping.{steps-nobody}
use Rattle.tl_world.proofs.Words.{steps-silent}
use Rattle.tl_world.proofs.network.Network.ask_load.Goals as goal

pub returns-then-from-len : goal.returns-then-from-len
returns-then-from-len g c = λ config s h room.
    steps-nobody g.A.Agent.represents g.A.Agent.terms g.D.Directory.perm_of config c.args.self.now s
    (Ask c.args.client (Load c.args.address c.args.size)) h (omega arith)

pub returns : goal.returns
returns g c = λ config s h room.
    steps-silent g.A.Agent.represents g.A.Agent.terms g.D.Directory.perm_of config c.args.self.now _ s
    c.args.client (Load c.args.address c.args.size) c.ask_load_at.result h (omega arith)
    (rw c.from-2.ensures at c.ask_load_at.ensures) refl refl room
