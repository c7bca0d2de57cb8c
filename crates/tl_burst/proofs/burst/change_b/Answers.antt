use Rattle.std.proofs.Common.{sym}
use Rattle.tl_burst.proofs.ControlFields.{b_beat_here}
use Rattle.tl_burst.proofs.burst.change_b.Goals as goal

pub returns : goal.returns
returns g c = sym (b_beat_here c.args.m.now c.args.i _ c.requires.same c.change_lanes.ensures.here (sym c.mask_of-x.ensures) (sym c.bit_of-x.ensures))
