use Rattle.std.proofs.Common.{None, sym, subst}
use Rattle.tl_memory.specs.statement.Blocks.{KnowsKept}
use Rattle.tl_memory.proofs.memory.Memory.change_in.Goals as goal

pub returns-in-Some : goal.returns-in-Some
returns-in-Some g c = λ n t k messages legal asked borne.
    c.byte_change.ensures n c.args.block t
    (subst (λ o. KnowsKept o n c.args.block t) (sym c.in-Some.ensures) (k.blocks_are.states_are c.args.block))
    messages legal asked borne

pub returns-in-None : goal.returns-in-None
returns-in-None g c = λ n t k messages legal asked borne.
    let kept : KnowsKept None n c.args.block t =
    subst (λ o. KnowsKept o n c.args.block t) (sym c.in-None.ensures) (k.blocks_are.states_are c.args.block) in
    c.byte_change-in-None.ensures n c.args.block t (kept.1 c.new.result (c.new.ensures n c.args.block))
    messages legal asked borne
