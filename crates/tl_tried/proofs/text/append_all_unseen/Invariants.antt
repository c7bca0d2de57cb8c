use Rattle.std.proofs.Common.{◌≡◌, ◌++◌, drop}
use Rattle.std.specs.List.{flat_map}
use Rattle.tl_tried.specs.statement.Told.{unseen_text}
use Rattle.tl_tried.proofs.text.append_all_unseen.Given as goal

abbrev pub invariant-loop-sum : goal.invariant-loop-sum
invariant-loop-sum l = l.out.items ++ flat_map unseen_text (drop l.sum-index l.sums) ≡ l.initial.out.items ++ flat_map
    unseen_text l.sums
