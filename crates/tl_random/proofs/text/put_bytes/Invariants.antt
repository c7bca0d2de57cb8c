use Rattle.std.proofs.Common.{◌≡◌, ◌-◌, ◌++◌, drop}
use Rattle.tl_beat.specs.statement.Digits.{lane_digits}
use Rattle.tl_random.proofs.text.put_bytes.Given as goal

abbrev pub invariant-loop-i : goal.invariant-loop-i
invariant-loop-i l = l.out.items ≡ l.fn.out.items ++ lane_digits (drop (l.count - l.i) l.bytes)
