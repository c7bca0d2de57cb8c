use Rattle.tl_manager.specs.statement.Reaction.{with_block}
use Rattle.tl_manager.proofs.blocks.Blocks.{blocks-set, block-put, put-elsewhere}
use Rattle.tl_manager.proofs.manager.blocks.Blocks.write.Goals as goal

pub returns-clause-bytes : goal.returns-clause-bytes
returns-clause-bytes c = λ memory are.
    blocks-set c.args.self.now.bytes.items c.args.block c.args.bytes.now memory
    (with_block c.args.block c.args.bytes.now memory) c.requires c.told-bytes
    (block-put memory c.args.block c.args.bytes.now) (put-elsewhere memory c.args.block c.args.bytes.now) are
