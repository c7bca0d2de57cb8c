use Rattle.std.proofs.Common.{arith}
use Rattle.tl_schedule.proofs.ByteDigits.{all_shown}
use Rattle.tl_schedule.proofs.outcome.shown.Goals as goal

pub returns-then-size-ge6 : goal.returns-then-size-ge6
returns-then-size-ge6 c = all_shown c.args.size c.args.bytes.now (omega arith) c.requires
