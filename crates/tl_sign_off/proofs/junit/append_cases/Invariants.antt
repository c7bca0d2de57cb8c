use Rattle.std.proofs.Common.{◌≡◌, ◌++◌, drop}
use Rattle.std.specs.List.{flat_map}
use Rattle.tl_sign_off.specs.statement.Junit.{case_of}
use Rattle.tl_sign_off.proofs.junit.append_cases.Given as goal

abbrev pub invariant-loop-finding : goal.invariant-loop-finding
invariant-loop-finding l =
    l.out.items ++ flat_map (case_of l.together) (drop l.finding-index l.faults)
    ≡ l.initial.out.items ++ flat_map (case_of l.together) l.faults
