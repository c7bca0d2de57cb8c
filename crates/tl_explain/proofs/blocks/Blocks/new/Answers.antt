use Rattle.tl_explain.proofs.follows.Keys.{no_blocks}
use Rattle.tl_explain.proofs.blocks.Blocks.new.Goals as goal

pub returns : goal.returns
returns c = λ w. no_blocks w _ _ c.new.ensures c.new-2.ensures
