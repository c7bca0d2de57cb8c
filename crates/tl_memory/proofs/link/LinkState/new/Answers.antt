use Rattle.std.specs.Prelude.{None}
use Rattle.tl_memory.proofs.messages.LinkStates.{link-first}
use Rattle.tl_memory.proofs.link.LinkState.new.Goals as goal

pub returns : goal.returns
returns c = λ w n link. link-first (record { messages = c.new.result; expected = None }) n link (c.new.ensures w)
