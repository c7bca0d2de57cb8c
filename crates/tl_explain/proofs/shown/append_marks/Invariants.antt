use Rattle.std.proofs.Common.{◌≡◌, ◌++◌, drop}
use Rattle.std.specs.List.{flat_map}
use Rattle.tl_explain.specs.statement.Shown.{under}
use Rattle.tl_explain.proofs.shown.append_marks.Given as goal

abbrev pub invariant-loop-byte : goal.invariant-loop-byte
invariant-loop-byte l =
    l.out.items ++ flat_map (under l.mark) (drop l.byte-index l.bytes)
    ≡ l.initial.out.items ++ flat_map (under l.mark) l.bytes
