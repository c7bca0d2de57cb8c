use Rattle.std.proofs.Common.{None, sym, subst}
use Rattle.tl_memory.specs.statement.Blocks.{KnowsKept}
use Rattle.tl_memory.proofs.memory.Memory.add_others.Goals as goal

pub returns-in-None : goal.returns-in-None
returns-in-None g c = λ n t k place v lt small.
    let kept : KnowsKept None n c.args.block t =
    subst (λ o. KnowsKept o n c.args.block t) (sym c.in-None.ensures) (k.blocks_are.states_are c.args.block) in
    c.add_others-in-None.ensures n c.args.block t (kept.1 c.new.result (c.new.ensures n c.args.block)) place v lt small
