use Rattle.std.proofs.Common.{refl}
use Rattle.tl_together.proofs.Judging.{refused_knows, unclosed}
use Rattle.tl_together.proofs.judge.Judge.push.Goals as goal

pub returns-in-Ok-clause-knows : goal.returns-in-Ok-clause-knows
returns-in-Ok-clause-knows g c = λ levels may t closed k.
    unclosed c.try_push.new.self levels may t _ closed (c.args.link, c.args.beat.now)
    (c.in-Ok.ensures.answer levels may t closed k) (c.in-Ok.ensures.knows levels may t closed k)

pub returns-in-Err-clause-knows : goal.returns-in-Err-clause-knows
returns-in-Err-clause-knows g c = λ levels may t closed k.
    refused_knows c.try_push.new.self _ levels may t closed c.in-Err.fault (c.in-Err.ensures.knows levels may t closed k)
    c.is_closed_after-self.ensures refl refl refl refl refl (λ n t m. m)
