use Rattle.tl_commit_lines.specs.statement.MarkedHeader.{levels_of}
use Rattle.tl_wide_event_story.proofs.guide.Kind.note_address.Goals as goal

pub returns-in-OfLink : goal.returns-in-OfLink
returns-in-OfLink g c = λ may links names e k.
    c.note_address.ensures may (levels_of links) e (rw c.in-OfLink.is at k)

pub returns-in-OfResponse : goal.returns-in-OfResponse
returns-in-OfResponse g c = λ may links names e k.
    c.note_address-in-OfResponse.ensures may links names e (rw c.in-OfResponse.is at k)
