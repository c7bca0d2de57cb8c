use Rattle.tl_manager.proofs.blocks.Memories.{memory-elsewhere, refusal-closes, stall-keeps}
use Rattle.tl_manager.proofs.law.keeps_the_rest.Goals as goal

pub returns-clause-memory : goal.returns-clause-memory
returns-clause-memory g c = λ config link ch x e address typed ok other. memory-elsewhere config link ch x e address
    c.requires typed ok other

pub returns-clause-refusal : goal.returns-clause-refusal
returns-clause-refusal g c = λ config link ch x e rule is. refusal-closes config link ch x e rule is

pub returns-clause-stall : goal.returns-clause-stall
returns-clause-stall g c = λ config link ch x e is. stall-keeps config link ch x e is
