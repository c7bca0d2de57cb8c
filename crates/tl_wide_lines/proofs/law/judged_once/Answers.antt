use Rattle.tl_wide_lines.proofs.JudgedOnce.{wide-once}
use Rattle.tl_wide_lines.proofs.law.judged_once.Goals as goal

pub returns : goal.returns
returns g c = λ together may levels lines text other status another.
    wide-once g.row.W c.requires together may levels lines text status other another
