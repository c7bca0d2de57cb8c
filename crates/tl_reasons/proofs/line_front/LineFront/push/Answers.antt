use Rattle.std.proofs.Common.{rules}
use Rattle.tl_reasons.proofs.Reaching.{one-more}
use Rattle.tl_reasons.proofs.line_front.LineFront.push.Goals as goal

pub returns : goal.returns
returns c = λ good read known.
    rw (c.requires.before, c.in_ok-push.ensures.items)
    (one-more good c.args.self.now.front.items read c.args.byte _ c.is_last-self.result (search rules) c.is_last-self.ensures
    (rw (c.requires.before, c.requires.more) at known))
