use Rattle.tl_commit_lines.specs.statement.MarkedHeader.{links_in}
use Rattle.tl_report.specs.statement.Found.{event_terms_of}
use Rattle.tl_report.proofs.WideEventTaken.{takes-none}
use Rattle.tl_report.proofs.wide_events.WideEventTaker.new.Goals as goal

pub returns : goal.returns
returns g c =
    takes-none g.row.W g.row.P (event_terms_of c.args.together c.args.links.now.may (links_in c.args.links.now))
    c.in_ok-judge.judge c.in_ok-judge.ensures
