use Rattle.tl_rules.proofs.Lanes.{all_lanes, some_lanes}
use Rattle.tl_rules.proofs.Widths.{width-bounds}
use Rattle.tl_rules.proofs.mask.lanes.Goals as goal
use Rattle.tl_rules.proofs.mask.lanes.Goals.{then-bytes, else-bytes}

pub returns : goal.returns
returns g c = λ lane lt.
    let few = (width-bounds g.row.W c.requires.width).1 in
    elim c.if-bytes.branch [
      | then-bytes w ↦ all_lanes g.row.W c.args.size c.args.address lane c.if-bytes.first w.first-is few
          c.requires.small w.if-bytes.true lt
      | else-bytes w ↦ some_lanes g.row.W c.args.size c.args.address lane c.if-bytes.first w.first-is few
          c.requires.small w.if-bytes.false lt
    ]
