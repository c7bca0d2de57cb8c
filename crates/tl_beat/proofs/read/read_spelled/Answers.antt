use Rattle.tl_beat.proofs.LineAt.{line_at-is}
use Rattle.tl_beat.proofs.Placed.{link-spells}
use Rattle.tl_beat.proofs.read.read_spelled.Goals as goal

pub returns : goal.returns
returns g c = link-spells c.args.line.now c.spelled_line.result _ c.spelled_line.new.beat c.requires
    (line_at-is g.row.W c.args.line.now) c.spelled_line.ensures
