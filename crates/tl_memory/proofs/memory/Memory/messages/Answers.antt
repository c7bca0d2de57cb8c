use Rattle.std.proofs.Common.{refl, sym}
use Rattle.tl_memory.proofs.messages.Kept.{item-there}
use Rattle.tl_memory.proofs.memory.Memory.messages.Goals as goal

pub returns-in-Some : goal.returns-in-Some
returns-in-Some g c = λ n t k lt. (
  (k.links_are.states_are c.args.link.0 c.in-Some.state.now (sym c.in-Some.ensures)).messages_are,
  refl,
)

pub returns-in-None : goal.returns-in-None
returns-in-None g c = λ n t k lt. absurd
    (item-there c.args.self.now.links.states.items c.args.link.0 n k.links_are.count_is lt c.in-None.ensures)
