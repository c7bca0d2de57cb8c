use Rattle.std.proofs.Common.{codes}
use Rattle.std.specs.Fmt.{decimal}
use Rattle.tl_chart.proofs.Gathering.{on_ok}
use Rattle.tl_chart.proofs.Texts.{two_joined}
use Rattle.tl_chart.specs.statement.Picture.{point_place}
use Rattle.tl_chart.proofs.draw.append_point_place.Goals as goal

pub returns : goal.returns
unfolding point_place
returns c = on_ok c.append_with-2.result (λ e. two_joined c.args.out.now.items c.append_with.new.out.items
    c.append_with-2.new.out.items (codes "'/><circle cx='") (decimal c.args.x) (codes "' cy='") (decimal c.args.y)
    c.in_ok-append_with.ensures e) c.append_with-2.ensures
