use Rattle.std.proofs.Common.{sym}
use Rattle.tl_burst.proofs.ControlFields.{d_beat_here}
use Rattle.tl_burst.proofs.burst.change_d.Goals as goal

pub returns : goal.returns
returns g c = sym (d_beat_here c.args.m.now c.args.i _ c.requires.same c.change_lanes.ensures.here (sym c.bit_of-x.ensures))
