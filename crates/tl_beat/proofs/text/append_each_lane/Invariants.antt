use Rattle.std.proofs.Common.{◌≡◌, ◌++◌, ◌+◌, ◌-◌, ◌*◌, length, take}
use Rattle.tl_beat.specs.statement.Digits.{lane_digits}
use Rattle.tl_beat.proofs.text.append_each_lane.Given as goal

abbrev pub invariant-loop-i : goal.invariant-loop-i
invariant-loop-i g l = record {
  text : l.text.items ++ lane_digits (take (g.row.W - l.i) l.lanes) ≡ l.initial.text.items ++ lane_digits l.lanes;
  len : length l.text.items ≡ length l.initial.text.items + 2 * l.i;
}
