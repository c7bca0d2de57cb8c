use Rattle.std.proofs.Common.{◌≡◌, ◌-◌, ◌*◌, drop, length}
use Rattle.tl_beat.specs.statement.Digits.{lane_digits}
use Rattle.tl_schedule.proofs.outcome.append_each.Given as goal

abbrev pub invariant-loop-i : goal.invariant-loop-i
invariant-loop-i l = record {
  text : l.text.items ≡ lane_digits (drop (l.count - l.i) l.bytes);
  len : length l.text.items ≡ 2 * l.i;
}
