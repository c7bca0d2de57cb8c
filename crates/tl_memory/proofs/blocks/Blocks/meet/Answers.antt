use Rattle.tl_memory.proofs.states.Tables.{blocks-met}
use Rattle.tl_memory.proofs.blocks.Blocks.meet.Goals as goal

pub returns-clause-known : goal.returns-clause-known
returns-clause-known g c = λ n t k. blocks-met c.find.new.self n c.args.block c.in_ok-place.place t
    c.in_ok-place.ensures.found (c.find.ensures.known n t k)
