use Rattle.std.proofs.Common.{rules, refl}
use Rattle.tl_reasons.proofs.Reaching.{one-ended, one-passed}
use Rattle.tl_reasons.proofs.line_front.LineFront.take.Goals as goal

pub returns-then-byte-eq10 : goal.returns-then-byte-eq10
returns-then-byte-eq10 c = λ good read known.
    rw c.if-self.false (one-ended good c.args.self.now.before c.args.self.now.front.items read c.args.byte _
    (search rules) refl (rw c.if-byte-eq10.true refl) (rw c.if-self.false at known))

pub returns-else-byte-eq10 : goal.returns-else-byte-eq10
returns-else-byte-eq10 c = λ good read known.
    rw c.if-self.false (one-passed good c.args.self.now.before c.args.self.now.front.items read c.args.byte
    (search rules) (search rules) (rw c.if-self.false at known))
