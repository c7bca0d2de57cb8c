use Rattle.tl_lines.proofs.Judged.{header_open, beat_open}
use Rattle.tl_lines.proofs.monitor_lines.MonitorLinesLineHandler.open_fault.Goals as goal

pub returns-in-Waiting-clause-stops : goal.returns-in-Waiting-clause-stops
returns-in-Waiting-clause-stops g c = λ line said open_line. rw c.in-Waiting.is (header_open g.row.TOGETHER _ line said open_line)

pub returns-in_default-clause-stops : goal.returns-in_default-clause-stops
returns-in_default-clause-stops g c = λ line said open_line. beat_open g.row.TOGETHER _ c.in_default.not-Waiting line said open_line
