use Rattle.tl_rules.proofs.Blocks.{read_done}
use Rattle.tl_rules.proofs.perform.read.Goals as goal

pub returns : goal.returns
returns g c = λ memory is.
    let span = c.new in
    read_done c.args.request.now memory c.args.block.now c.payload_at.result span.result.in_block span.result.in_payload
    span.result.count span.ensures.block
    span.ensures.payload span.ensures.count span.result.within_block c.told-block c.payload_at.ensures is
