use Rattle.std.proofs.Common.{◌≡◌, [], rules}
use Rattle.tl_lines.proofs.Judged.{said_at_end}
use Rattle.tl_sign_off.proofs.Noted.{none_in}
use Rattle.tl_sign_off.proofs.tell.append_first.Goals as goal

pub returns-in-empty : goal.returns-in-empty
returns-in-empty c =
    let none : c.args.findings.now.faults.items ≡ [] = none_in c.args.findings.now.faults.items (search rules) in
    rw (none, ← said_at_end c.args.together c.args.findings.now.beats) c.append_end.ensures
