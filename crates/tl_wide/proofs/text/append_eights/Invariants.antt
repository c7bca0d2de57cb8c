use Rattle.std.proofs.Common.{◌≡◌, ◌+◌, ◌-◌, ◌*◌, ◌++◌, drop, length}
use Rattle.tl_beat.specs.statement.Digits.{lane_digits}
use Rattle.tl_wide.proofs.text.append_eights.Given as goal

abbrev pub invariant-loop-i : goal.invariant-loop-i
invariant-loop-i l = record {
  text : l.line.items ≡ l.initial.line.items ++ lane_digits (drop (8 * (l.count - l.i)) l.lanes);
  len : length l.line.items ≡ length l.initial.line.items + 16 * l.i;
}
