use Rattle.std.proofs.Common.{◌≡◌, ◌-◌, [], drop, length}
use Rattle.tl_beat.specs.code.FromLeft.{lanes_at}
use Rattle.tl_beat.proofs.read.field.any_lanes.Given as goal

abbrev pub invariant-loop-i : goal.invariant-loop-i
invariant-loop-i g l = record {
  same : lanes_at (drop (g.row.W - l.i) l.lanes) (g.row.W - l.i) l.rest ≡ lanes_at [] g.row.W l.field;
  len : length l.lanes ≡ g.row.W;
}
