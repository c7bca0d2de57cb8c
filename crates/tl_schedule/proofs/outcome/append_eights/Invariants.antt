use Rattle.std.proofs.Common.{◌≡◌, ◌-◌, ◌*◌, ◌++◌, drop}
use Rattle.tl_beat.specs.statement.Digits.{lane_digits}
use Rattle.tl_schedule.proofs.outcome.append_eights.Given as goal

abbrev pub invariant-loop-i : goal.invariant-loop-i
invariant-loop-i l = l.out.items ≡ l.initial.out.items ++ lane_digits (drop (8 * (l.count - l.i)) l.bytes)
