use Rattle.std.proofs.lemmas.Result.{IfOk-weaker}
use Rattle.tl_commit_lines.specs.statement.MarkedHeader.{complete_of, levels_of}
use Rattle.tl_wide_event_story.proofs.LinkRecorded.{link-commit}
use Rattle.tl_wide_event_story.proofs.guide.Kind.take_commit.Goals as goal

pub returns-in-OfCopy : goal.returns-in-OfCopy
returns-in-OfCopy g c = IfOk-weaker c.take_commit.result _ _
    (λ on follows. λ yes may links names e at k.
    follows yes may (levels_of links) (complete_of links) e at (rw c.in-OfCopy.is at k)) c.take_commit.ensures

pub returns-in-OfResponse : goal.returns-in-OfResponse
returns-in-OfResponse g c = IfOk-weaker c.take_commit-in-OfResponse.result _ _
    (λ on follows. λ yes may links names e at k. follows yes _ may links names e at (rw c.in-OfResponse.is at k))
    c.take_commit-in-OfResponse.ensures

pub returns-in-OfLink : goal.returns-in-OfLink
returns-in-OfLink g c = λ yes may links names e at k.
    rw c.in-OfLink.is (link-commit c.in-OfLink.field-0 may (levels_of links) e c.args.link c.args.narrow
    (rw c.in-OfLink.is at k))
