use Rattle.std.proofs.Common.{arith}
use Rattle.tl_rules.specs.statement.Legality.{is_lane}
use Rattle.tl_rules.proofs.Masks.{part_of_mask}
use Rattle.tl_rules.proofs.Takeable.{if_true, part_mask-narrow}
use Rattle.tl_rules.proofs.mask.is_part.Goals as goal

pub returns-clause-value : goal.returns-clause-value
returns-clause-value g c = part_of_mask c.args.mask c.lanes.result (is_lane g.row.W c.args.size c.args.address)
    (omega arith) (omega arith) c.lanes.ensures

pub returns-clause-narrow : goal.returns-clause-narrow
returns-clause-narrow g c = λ aligned.
    let test = is_lane g.row.W c.args.size c.args.address in
    if_true _ _ (part_of_mask c.args.mask c.lanes.result test (omega arith) (omega arith) c.lanes.ensures)
    (part_mask-narrow g.row.W c.args.size c.args.address c.args.mask c.requires.width c.requires.small (omega arith)
    aligned)
