use Rattle.std.proofs.Common.{◌≡◌, ◌++◌, drop}
use Rattle.tl_chart.specs.statement.Words.{escaped}
use Rattle.tl_chart.proofs.text.append_escaped.Given as goal

abbrev pub invariant-loop-byte : goal.invariant-loop-byte
invariant-loop-byte l =
    l.out.items ++ escaped (drop l.byte-index l.bytes) ≡ l.initial.out.items ++ escaped l.bytes
