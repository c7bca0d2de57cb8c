use Rattle.std.proofs.Common.{◌≡◌, [], rules}
use Rattle.tl_lines.proofs.Judged.{said_at_end}
use Rattle.tl_report.proofs.Searched.{nothing_in}
use Rattle.tl_report.proofs.say.append_all.Goals as goal

pub returns-then-is_empty : goal.returns-then-is_empty
returns-then-is_empty c =
    let none : c.args.findings.now.faults.items ≡ [] = nothing_in c.args.findings.now.faults.items (search rules) in
    rw (none, ← said_at_end c.args.together c.args.findings.now.beats) c.append_end.ensures
