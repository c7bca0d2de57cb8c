use Rattle.std.proofs.Common.{arith}
use Rattle.tl_coherence.specs.declared.event.Event.TheVariants.{Ask}
use Rattle.tl_world.proofs.Stepping.{steps-nobody}
use Rattle.tl_world.proofs.network.Network.ask_if_there.Goals as goal

pub returns-then-from-len : goal.returns-then-from-len
returns-then-from-len g c = λ config s h room.
    steps-nobody g.A.Agent.represents g.A.Agent.terms g.D.Directory.perm_of config c.args.self.now s
    (Ask c.args.client c.args.operation.now) h (omega arith)
