use Rattle.std.proofs.lemmas.Result.{IfOk-weaker}
use Rattle.tl_commit_lines.specs.statement.MarkedHeader.{complete_of, levels_of}
use Rattle.tl_commit_story.proofs.response_follower.ResponseFollower.take.Goals as goal

pub returns-in-OfLinks : goal.returns-in-OfLinks
returns-in-OfLinks g c = IfOk-weaker c.take.result _ _
    (λ on follows. λ yes may links e at k. follows yes may (levels_of links) e (rw c.in-OfLinks.is at k))
    c.take.ensures

pub returns-in-OfBytes : goal.returns-in-OfBytes
returns-in-OfBytes g c = IfOk-weaker c.take-in-OfBytes.result _ _
    (λ on follows. λ yes may links e at k.
    follows yes may (levels_of links) (complete_of links) e at (rw c.in-OfBytes.is at k)) c.take-in-OfBytes.ensures.takes
