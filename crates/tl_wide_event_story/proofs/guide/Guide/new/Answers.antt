use Rattle.std.proofs.Common.{refl}
use Rattle.tl_commit_lines.specs.statement.MarkedHeader.{links_in}
use Rattle.tl_wide_event_story.proofs.Guided.{none-guided}
use Rattle.tl_wide_event_story.proofs.guide.Guide.new.Goals as goal

pub returns-in-Some : goal.returns-in-Some
returns-in-Some g c = none-guided _ c.args.header.now.may (links_in c.args.header.now) (c.new.ensures g.row.W) refl
    c.new-in-Some.ensures (rw c.in-Some.is at c.in_ok-kind_of.ensures)
