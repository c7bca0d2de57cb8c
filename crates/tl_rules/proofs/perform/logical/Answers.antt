use Rattle.std.proofs.Common.{arith, ◌≡◌, ◌+◌, ◌-◌, refl}
use Rattle.tl_rules.proofs.Blocks.{logical_done}
use Rattle.tl_rules.proofs.perform.logical.Goals as goal

pub returns : goal.returns
returns g c = λ memory is.
    let span = c.new-span in
    let in_block : span.result.in_block + span.result.count - span.result.in_block ≡ span.result.count = omega arith in
    let in_payload : span.result.in_payload + span.result.count - span.result.in_payload ≡ span.result.count =
    omega arith in
    logical_done c.args.request.now c.in-Some.operation memory c.args.block.now c.logical.new.bytes _
    span.result.in_block span.result.in_payload span.result.count
    c.requires.width c.in-Some.ensures.value span.ensures.block span.ensures.payload span.ensures.count
    span.result.within_block span.result.within_payload c.told-block (omega arith)
    (rw (in_block, in_payload) at c.logical.ensures.value) (rw in_block at c.logical.ensures.old_fits)
    (rw in_payload at c.logical.ensures.operand_fits) (rw in_block refl) is
