use Rattle.tl_commit_lines.proofs.JudgedOnce.{events-once}
use Rattle.tl_commit_lines.proofs.law.judged_once.Goals as goal

pub returns : goal.returns
returns g c = λ together links may e lines text other status another.
    events-once g.row.W c.requires together links may e lines text other status another
