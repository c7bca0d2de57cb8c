use Rattle.tl_lines.proofs.JudgedLines.{no_header}
use Rattle.tl_lines.proofs.link_lines.start.Goals as goal

pub returns-in-None-clause-judges : goal.returns-in-None-clause-judges
returns-in-None-clause-judges c = λ said.
    no_header c.args.link_lines.now _ c.requires c.args.line.now said (rw c.in-None.is at c.in_ok-begin.ensures.begins)
