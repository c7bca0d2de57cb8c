use Rattle.std.proofs.Common.{◌≡◌, ◌++◌, drop}
use Rattle.std.specs.List.{flat_map}
use Rattle.tl_tried.specs.statement.Told.{next_verdict}
use Rattle.tl_tried.proofs.json.append_other_verdicts.Given as goal

abbrev pub invariant-loop-tried : goal.invariant-loop-tried
invariant-loop-tried l = l.out.items ++ flat_map next_verdict (drop l.tried-index l.all)
    ≡ l.initial.out.items ++ flat_map next_verdict l.all
