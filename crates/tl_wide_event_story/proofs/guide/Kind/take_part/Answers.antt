use Rattle.std.proofs.lemmas.Result.{IfOk-weaker}
use Rattle.tl_commit_lines.specs.statement.MarkedHeader.{complete_of, levels_of}
use Rattle.tl_wide_event_story.proofs.guide.Kind.take_part.Goals as goal

pub returns-in-OfCopy : goal.returns-in-OfCopy
returns-in-OfCopy g c = IfOk-weaker c.take_part.result _ _
    (λ on follows. λ yes may links names e at k.
    follows yes may (levels_of links) (complete_of links) e at (rw c.in-OfCopy.is at k)) c.take_part.ensures

pub returns-in-OfResponse : goal.returns-in-OfResponse
returns-in-OfResponse g c = IfOk-weaker c.take_part-in-OfResponse.result _ _
    (λ on follows. λ yes may links names e at k. follows yes _ may links names e at (rw c.in-OfResponse.is at k))
    c.take_part-in-OfResponse.ensures

pub returns-in_ok-allow-in-OfLink : goal.returns-in_ok-allow-in-OfLink
returns-in_ok-allow-in-OfLink g c = λ yes may links names e at k.
    c.record.ensures yes may (levels_of links) e
    (c.allow.ensures may (levels_of links) e (rw c.in-OfLink.is at k))
