use Rattle.tl_wide_event_lines.proofs.JudgedOnce.{events-once}
use Rattle.tl_wide_event_lines.proofs.law.judged_once.Goals as goal

pub returns : goal.returns
returns g c = λ together links may t lines text other status another.
    events-once g.row.W c.requires together links may t lines text other status another
