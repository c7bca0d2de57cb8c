use Rattle.std.proofs.Common.{◌≡◌, ◌+◌, ◌-◌, ◌*◌, ◌/◌, length, arith, rules}
use Rattle.tl_schedule.proofs.ByteDigits.{eight_more, nothing_behind}
use Rattle.tl_schedule.proofs.outcome.append_eights.Goals as goal

pub loop-i-init : goal.loop-i-init
loop-i-init c = nothing_behind _ c.args.bytes.now c.args.out.now.items (omega (arith, c.requires))

pub loop-i-preserved : goal.loop-i-preserved
loop-i-preserved c =
    let count = length c.args.bytes.now / 8 in
    let at = 8 * (count - 1 - c.loop-i.i) in
    let here : 8 * (count - (c.loop-i.i + 1)) ≡ at = omega arith in
    let behind : 8 * (count - c.loop-i.i) ≡ at + 8 = omega (arith, c.loop-i-test.true) in
    rw (c.in_ok-extend_from_slice.ensures.items, here)
    (eight_more at c.args.bytes.now c.args.out.now.items c.loop-i.out.items c.sixteen_digits.result (search rules)
    (rw behind at c.loop-i.invariant))
