use Rattle.std.proofs.Common.{refl}
use Rattle.tl_params.specs.statement.Liberties.{liberties_of}
use Rattle.tl_monitor.proofs.Knowing.{closed-anew, to-liberties, to-profile}
use Rattle.tl_monitor.proofs.monitor.Monitor.push.Goals as goal

pub returns-clause-knows : goal.returns-clause-knows
returns-clause-knows g c = λ levels p t closed k.
    to-profile _ levels p _ _ (closed-anew c.try_push-answer.new.self _ levels (liberties_of p) _ closed _
    (to-liberties c.try_push-answer.new.self levels p _ closed (c.try_push-answer.ensures.knows levels p t closed k))
    refl refl c.is_closed_after-self.ensures)

pub returns-clause-knows_under : goal.returns-clause-knows_under
returns-clause-knows_under g c = λ levels lib t closed k.
    closed-anew c.try_push-answer.new.self _ levels lib _ closed _
    (c.try_push-answer.ensures.knows_under levels lib t closed k) refl refl c.is_closed_after-self.ensures
