use Rattle.std.proofs.Common.{◌≡◌, ◌++◌, drop, map}
use Rattle.serde_json.specs.View.{view}
use Rattle.tl_sign_off.specs.statement.Report.{fault_data}
use Rattle.tl_sign_off.proofs.report.faults_value.Given as goal

abbrev pub invariant-loop-finding : goal.invariant-loop-finding
invariant-loop-finding l =
    map view l.list.items ++ map fault_data (drop l.finding-index l.faults) ≡ map fault_data l.faults
