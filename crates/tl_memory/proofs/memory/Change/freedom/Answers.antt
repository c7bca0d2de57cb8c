use Rattle.std.proofs.Common.{false, refl}
use Rattle.tl_memory.proofs.states.Memories.{said-free}
use Rattle.tl_memory.proofs.memory.Change.freedom.Goals as goal

pub returns : goal.returns
returns g c = λ n block t k own given.
    let change = c.args.self.now in
    said-free change (record { reading = change.reading; writing = change.writing; shown = false }) n block t k own refl
    refl given
