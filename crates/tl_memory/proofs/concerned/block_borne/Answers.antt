use Rattle.std.proofs.Common.{◌∙◌}
use Rattle.tl_memory.proofs.messages.EarlyMessages.{grants-block}
use Rattle.tl_memory.proofs.concerned.block_borne.Goals as goal

pub returns-in-D : goal.returns-in-D
returns-in-D g c = λ past k asked.
    let is = c.in-D.is in
    rw is (c.block_answered.ensures past k (rw is at asked))

pub returns-in-E : goal.returns-in-E
returns-in-E g c = λ past k asked.
    let is = c.in-E.is in
    rw is (c.grants_with.ensures ∙ grants-block c.args.messages.now.granting c.in-E.x.sink past k.granting_is)
