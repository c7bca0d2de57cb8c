use Rattle.std.proofs.Common.{arith, rules}
use Rattle.tl_coherence.specs.declared.event.Event.TheVariants.{Deliver}
use Rattle.tl_world.proofs.Stepping.{steps-nobody}
use Rattle.tl_world.proofs.network.Network.deliver.Goals as goal

pub returns-then-from-len : goal.returns-then-from-len
returns-then-from-len g c = λ config s h room.
    steps-nobody g.A.Agent.represents g.A.Agent.terms g.D.Directory.perm_of config c.args.self.now s
    (Deliver c.args.link c.args.channel) h (omega arith)

pub returns-then-is_to_client : goal.returns-then-is_to_client
returns-then-is_to_client g c = λ config s h room. c.to_client.ensures config s h (search rules) room

pub returns-else-is_to_client : goal.returns-else-is_to_client
returns-else-is_to_client g c = λ config s h room. c.to_manager.ensures config s h (search rules) room
