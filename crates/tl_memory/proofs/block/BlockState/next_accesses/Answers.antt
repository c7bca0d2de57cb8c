use Rattle.std.proofs.Common.{sym, ◌∙◌, ◌≡◌, false}
use Rattle.tl_memory.specs.code.Writers.{has_reader}
use Rattle.tl_memory.proofs.states.Keeping.{puts-renewed}
use Rattle.tl_memory.proofs.block.BlockState.next_accesses.Goals as goal

pub returns-in-None : goal.returns-in-None
returns-in-None g c =
    let none : has_reader c.as_slice.result.now ≡ false = sym c.has_reader.ensures ∙ c.if-not-has_reader.true in
    rw c.in-None.is (puts-renewed _ c.args.self.now.accesses.items (rw c.as_slice.ensures.value at none))
