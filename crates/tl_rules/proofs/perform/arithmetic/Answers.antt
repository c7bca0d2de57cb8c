use Rattle.tl_rules.proofs.Blocks.{arithmetic_done}
use Rattle.tl_rules.proofs.perform.arithmetic.Goals as goal

pub returns : goal.returns
returns g c = λ memory is.
    let span = c.new-span in
    arithmetic_done c.args.request.now c.in-Some.operation memory c.args.block.now c.write_number.new.bytes
    span.result.in_block span.result.in_payload
    span.result.count c.number_at-old.result c.operand-operand.result c.arithmetic-new.result
    c.requires.width c.in-Some.ensures.value span.ensures.block span.ensures.payload span.ensures.count
    (span.ensures.few c.requires.small) span.result.within_block c.told-block c.number_at-old.ensures.value
    c.operand-operand.ensures.value
    c.arithmetic-new.ensures c.write_number.ensures is
