use Rattle.tl_rules.proofs.Blocks.{put_done}
use Rattle.tl_rules.proofs.perform.put.Goals as goal

pub returns : goal.returns
returns g c = λ memory is.
    let moved = c.move_up-payload in
    put_done c.args.request.now memory c.args.block.now c.merge_masked.new.old moved.result c.base-base.result
    c.requires.width c.requires.carries c.told-block
    moved.ensures.long moved.ensures.len c.base-base.ensures.value moved.ensures.value c.merge_masked.ensures is
