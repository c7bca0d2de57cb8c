use Rattle.std.proofs.Common.{◌/◌}
use Rattle.tl_burst.specs.declared.message.Message.TheVariants.{A}
use Rattle.tl_rules.specs.statement.Effect.{effect}
use Rattle.tl_manager.proofs.blocks.Blocks.{blocks-set}
use Rattle.tl_manager.proofs.manager.blocks.Blocks.perform.Goals as goal

pub returns-clause-bytes : goal.returns-clause-bytes
returns-clause-bytes g c = λ memory are.
    let is = are (c.args.request.now.address / 64) c.index_mut-bytes.result.now c.requires.inside in
    rw c.block_at-block.ensures (blocks-set c.args.self.now.bytes.items (c.args.request.now.address / 64)
    c.perform-answer.new.block memory (effect (A c.args.request.now) memory).0 c.requires.inside c.prove_long.ensures
    (c.perform-answer.ensures.memory memory (rw (c.index_mut-bytes.ensures.value, c.block_at-block.ensures) is.1))
    (c.perform-answer.ensures.elsewhere c.requires.blank memory) are)

pub returns-clause-answer : goal.returns-clause-answer
returns-clause-answer g c = λ memory are.
    let is = are (c.args.request.now.address / 64) c.index_mut-bytes.result.now c.requires.inside in
    c.perform-answer.ensures.answer memory (rw (c.index_mut-bytes.ensures.value, c.block_at-block.ensures) is.1)
