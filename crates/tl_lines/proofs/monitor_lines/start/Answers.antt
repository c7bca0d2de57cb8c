use Rattle.tl_lines.proofs.Judged.{header_bad}
use Rattle.tl_lines.proofs.monitor_lines.start.Goals as goal

pub returns-in-None : goal.returns-in-None
returns-in-None g c = λ said. rw c.requires
    (header_bad g.row.TOGETHER _ c.args.line.now said (rw c.in-None.is at c.in_ok-begin.ensures))
