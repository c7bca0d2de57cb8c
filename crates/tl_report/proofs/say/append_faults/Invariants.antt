use Rattle.std.proofs.Common.{◌≡◌, ◌++◌, drop}
use Rattle.std.specs.List.{flat_map}
use Rattle.tl_report.specs.statement.Said.{finding_text}
use Rattle.tl_report.proofs.say.append_faults.Given as goal

abbrev pub invariant-loop-finding : goal.invariant-loop-finding
invariant-loop-finding l =
    l.out.items ++ flat_map finding_text (drop l.finding-index l.faults)
    ≡ l.initial.out.items ++ flat_map finding_text l.faults
