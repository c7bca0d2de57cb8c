use Rattle.std.proofs.Common.{◌≡◌, ◌-◌, ◌*◌, [], drop, length}
use Rattle.tl_beat.specs.code.FromLeft.{lanes_at}
use Rattle.tl_beat.proofs.read.field.spelled_lanes.Given as goal

abbrev pub invariant-loop-i : goal.invariant-loop-i
invariant-loop-i g l = record {
  same : lanes_at (drop (g.row.W - 8 * l.i) l.lanes) (g.row.W - 8 * l.i) (drop (16 * l.i) l.field) ≡ lanes_at [] g.row.W
      l.field;
  len : length l.lanes ≡ g.row.W;
}
