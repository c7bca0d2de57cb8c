use Rattle.std.proofs.lemmas.Result.{IfOk-weaker}
use Rattle.tl_wide_event_story.proofs.response_guide.ResponseGuide.take_commit.Goals as goal

pub returns : goal.returns
returns g c = IfOk-weaker c.take.result _ _
    (λ on follows. λ yes w may links names e at k. (follows yes may links e at k.0, k.1)) c.take.ensures
