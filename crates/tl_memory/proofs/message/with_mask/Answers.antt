use Rattle.std.proofs.Common.{arith}
use Rattle.tl_memory.proofs.messages.Masks.{added}
use Rattle.tl_memory.proofs.message.with_mask.Goals as goal

pub returns : goal.returns
returns g c = λ le small low. added g.row.W c.args.beats c.args.mask c.args.bits c.from.result
    c.saturating_mul-from.result c.from.ensures (omega (arith, c.saturating_mul-from.ensures, le)) low small le
