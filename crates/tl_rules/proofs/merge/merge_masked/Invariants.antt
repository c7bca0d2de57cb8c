use Rattle.std.proofs.Common.{◌≡◌, ◌++◌, ◌*◌, take, drop}
use Rattle.tl_rules.specs.code.Merge.{merged}
use Rattle.tl_rules.proofs.merge.merge_masked.Given as goal

abbrev pub invariant-loop-i : goal.invariant-loop-i
invariant-loop-i l = l.old ≡ merged l.mask 0 (take (8 * l.i) l.initial.old) (take (8 * l.i) l.new) ++ drop (8 * l.i)
    l.initial.old
