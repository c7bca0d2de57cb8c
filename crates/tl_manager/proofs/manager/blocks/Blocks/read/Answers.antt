use Rattle.tl_manager.proofs.blocks.Blocks.{block-read}
use Rattle.tl_manager.proofs.manager.blocks.Blocks.read.Goals as goal

pub returns : goal.returns
returns c = λ memory are.
    let is = are c.args.block c.index.result.now c.requires in
    rw c.index.ensures (block-read memory c.args.block _ is.0 is.1)
