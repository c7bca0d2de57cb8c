use Rattle.std.proofs.Common.{None, sym, subst}
use Rattle.std.proofs.lemmas.Result.{IfOk-weaker}
use Rattle.tl_memory.specs.statement.Blocks.{KnowsKept}
use Rattle.tl_memory.proofs.memory.Memory.grant_writes.Goals as goal

pub returns-in-Some : goal.returns-in-Some
returns-in-Some g c = IfOk-weaker c.grant_writes.result _ _ (λ writes h n t k. h n c.args.block t
    (subst (λ o. KnowsKept o n c.args.block t) (sym c.in-Some.ensures) (k.blocks_are.states_are c.args.block)))
    c.grant_writes.ensures

pub returns-in-None : goal.returns-in-None
returns-in-None g c = IfOk-weaker c.grant_writes-in-None.result _ _ (λ writes h n t k.
    let kept : KnowsKept None n c.args.block t =
    subst (λ o. KnowsKept o n c.args.block t) (sym c.in-None.ensures) (k.blocks_are.states_are c.args.block) in
    h n c.args.block t (kept.1 c.new.result (c.new.ensures n c.args.block)))
    c.grant_writes-in-None.ensures
