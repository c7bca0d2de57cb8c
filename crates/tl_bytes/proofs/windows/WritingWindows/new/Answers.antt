use Rattle.std.proofs.Common.{refl}
use Rattle.tl_bytes.{specs.declared.windows.WindowCount.WindowCount, proofs.Since.asked_now}
use Rattle.tl_bytes.proofs.windows.WritingWindows.new.Goals as goal

pub returns-then-free : goal.returns-then-free
returns-then-free c = λ w n block x t is_now now last. asked_now c.args.free WindowCount.One c.args.asked c.args.last n
    block x t (rw c.if-free.true refl) is_now now last

pub returns-else-free : goal.returns-else-free
returns-else-free c = λ w n block x t is_now now last. asked_now c.args.free WindowCount.Zero c.args.asked c.args.last n
    block x t (rw c.if-free.false refl) is_now now last
