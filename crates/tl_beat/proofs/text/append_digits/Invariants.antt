use Rattle.std.proofs.Common.{◌≡◌, ◌++◌, ◌+◌, ◌-◌, length}
use Rattle.tl_beat.specs.statement.Digits.{digits}
use Rattle.tl_beat.proofs.text.append_digits.Given as goal

abbrev pub invariant-loop-i : goal.invariant-loop-i
invariant-loop-i l = record {
  text : l.text.items ++ digits (l.count - l.i) l.number ≡ l.initial.text.items ++ digits l.count l.number;
  len : length l.text.items ≡ length l.initial.text.items + l.i;
}
