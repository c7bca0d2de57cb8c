use Rattle.tl_report.specs.statement.Found.{terms_of}
use Rattle.tl_report.proofs.WideTaken.{takes-none}
use Rattle.tl_report.proofs.wide.WideTaker.new.Goals as goal

pub returns : goal.returns
returns g c =
    takes-none g.row.W g.row.P (terms_of c.args.together c.args.links.now.may c.args.links.now.levels.items)
    c.in_ok-judge.judge c.in_ok-judge.ensures
