use Rattle.std.proofs.lemmas.Result.{IfOk-weaker}
use Rattle.tl_commit_story.proofs.Recorded.{allowed-next}
use Rattle.tl_commit_story.proofs.link_record.take_if_any.Goals as goal

pub returns-in-Some : goal.returns-in-Some
returns-in-Some g c = IfOk-weaker c.take_allowed.result _ _
    (λ on takes. λ yes. allowed-next c.args.allowances.now _ c.take_allowed.new.allowances c.args.link c.args.beat.now
    c.in-Some.is (takes yes)) c.take_allowed.ensures
