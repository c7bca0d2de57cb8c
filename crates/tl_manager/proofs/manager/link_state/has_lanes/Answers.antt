use Rattle.std.proofs.Common.{arith}
use Rattle.tl_manager.proofs.messages.Lanes.{all-lanes, all-narrow, part-of_lanes}
use Rattle.tl_manager.proofs.manager.link_state.has_lanes.Goals as goal

pub returns-in-PutPartialData-clause-lanes : goal.returns-in-PutPartialData-clause-lanes
returns-in-PutPartialData-clause-lanes g c =
    rw c.in-PutPartialData.is (part-of_lanes g.row.W c.args.size c.args.mask c.requires.width c.requires.small
    (omega arith) c.ranges.mask.fits)

pub returns-in_default : goal.returns-in_default
returns-in_default g c = record {
  lanes = all-lanes g.row.W c.args.opcode c.args.size c.args.mask c.requires.width c.requires.small (omega arith)
      c.ranges.mask.fits c.in_default.not-PutPartialData;
  narrow = all-narrow g.row.W c.args.mask c.requires.width;
}
