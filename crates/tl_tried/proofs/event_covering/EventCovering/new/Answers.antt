use Rattle.std.proofs.Common.{refl}
use Rattle.tl_commit_lines.specs.statement.MarkedHeader.{levels_of, links_in}
use Rattle.tl_tried.proofs.EventRows.{none-covered}
use Rattle.tl_tried.proofs.event_covering.EventCovering.new.Goals as goal

pub returns : goal.returns
returns g c =
    none-covered _ (links_in c.args.header.now) (levels_of (links_in c.args.header.now)) c.args.header.now.may _
    c.rows.result.now refl c.in_ok-covering.ensures c.rows.ensures.value c.new-rows.ensures.items
    c.in_ok-follow_rows.ensures refl
