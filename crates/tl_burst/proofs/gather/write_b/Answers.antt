use Rattle.tl_burst.proofs.ControlFields.{b_beat_here}
use Rattle.tl_burst.proofs.gather.write_b.Goals as goal

pub returns-clause-here : goal.returns-clause-here
returns-clause-here g c =
    b_beat_here (record c.args.m.now {
      payload = c.write_lanes.new.payload;
      mask = c.with_mask-m.result;
      corrupt =
          c.with_corrupt-m.result;
    }) c.args.i c.args.x.now c.requires.same
    c.write_lanes.ensures.here c.with_mask-m.ensures.here c.with_corrupt-m.ensures.here
