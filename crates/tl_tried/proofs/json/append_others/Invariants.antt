use Rattle.std.proofs.Common.{◌≡◌, ◌++◌, drop}
use Rattle.std.specs.List.{flat_map}
use Rattle.tl_tried.specs.statement.Told.{next_json}
use Rattle.tl_tried.proofs.json.append_others.Given as goal

abbrev pub invariant-loop-sum : goal.invariant-loop-sum
invariant-loop-sum l = l.out.items ++ flat_map (next_json l.several) (drop l.sum-index l.sums)
    ≡ l.initial.out.items ++ flat_map (next_json l.several) l.sums
