use Rattle.std.proofs.Common.{arith, rules}
use Rattle.tl_schedule.proofs.ByteDigits.{append-step, nothing_behind}
use Rattle.tl_random.proofs.text.put_bytes.Goals as goal

pub loop-i-init : goal.loop-i-init
loop-i-init c = nothing_behind _ c.args.bytes.now c.args.out.now.items (omega arith)

pub loop-i-preserved : goal.loop-i-preserved
loop-i-preserved c =
    rw c.in_ok-put_digits.ensures
    (append-step c.loop-i.i c.args.bytes.now c.args.out.now.items c.loop-i.out.items _
    (search rules) (search rules) c.loop-i.invariant)
