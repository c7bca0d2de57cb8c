use Rattle.std.proofs.Common.{◌≡◌, ◌+◌, ◌-◌, refl, arith}
use Rattle.tl_rules.proofs.Places.{over_zeros_part}
use Rattle.tl_rules.proofs.place.payload_at.Goals as goal

pub returns : goal.returns
returns c =
    let count : c.args.span.in_block + c.args.span.count - c.args.span.in_block ≡ c.args.span.count = omega arith in
    over_zeros_part c.args.span.in_payload c.args.span.in_block c.args.span.count c.args.block.now _
    c.write_at.new.bytes c.args.span.within_payload
    c.args.span.within_block c.told-block (rw count refl) c.write_at.ensures
