use Rattle.tl_engine.proofs.Playing.{header-open, line-open}
use Rattle.tl_engine.proofs.run_lines.RunLinesLineHandler.open_fault.Goals as goal

pub returns-in-Waiting-clause-stops : goal.returns-in-Waiting-clause-stops
returns-in-Waiting-clause-stops g c = λ line said open_line. rw c.in-Waiting.is (header-open g.row.FORM _ line said open_line)

pub returns-in_default-clause-stops : goal.returns-in_default-clause-stops
returns-in_default-clause-stops g c = λ line said open_line. line-open _ c.in_default.not-Waiting line said open_line
