use Rattle.std.proofs.lemmas.Result.{IfOk-weaker}
use Rattle.tl_commit_story.proofs.follower.Follower.take.Goals as goal

pub returns-in-OfResponse : goal.returns-in-OfResponse
returns-in-OfResponse g c = IfOk-weaker c.take-in-OfResponse.result _ _
    (λ on follows. λ yes together may links e at k.
    follows yes may links e at (rw c.in-OfResponse.is at k)) c.take-in-OfResponse.ensures
