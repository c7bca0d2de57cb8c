use Rattle.tl_memory.specs.declared.next_state.NextState.{NextState}
use Rattle.tl_memory.proofs.states.States.{unseen-state}
use Rattle.tl_memory.proofs.block.BlockState.with_bytes.Goals as goal

pub returns : goal.returns
returns g c = λ n block x t k bytes stay inside out.
    let next : NextState g.row.W =
    record { bytes = c.args.bytes; accesses = c.in_ok-accesses.accesses; outrun = c.args.outrun } in
    unseen-state c.args.self.now next n block c.args.gone x t k bytes stay inside out
    c.in_ok-accesses.ensures
