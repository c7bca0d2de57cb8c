use Rattle.std.proofs.Common.{refl}
use Rattle.tl_memory.proofs.messages.LinkBeats.{none-carried}
use Rattle.tl_memory.proofs.link.LinkMessages.new.Goals as goal

pub returns : goal.returns
returns c = λ w. none-carried _ (c.new.ensures w) (c.new-2.ensures w) (c.new-3.ensures w) refl refl refl
