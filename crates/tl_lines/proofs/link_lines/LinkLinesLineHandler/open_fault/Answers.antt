use Rattle.tl_lines.proofs.JudgedLines.{header_open, open_beat}
use Rattle.tl_lines.proofs.link_lines.LinkLinesLineHandler.open_fault.Goals as goal

pub returns-in-Waiting-clause-stops : goal.returns-in-Waiting-clause-stops
returns-in-Waiting-clause-stops c = λ line said is. header_open c.args.self.now _ c.in-Waiting.is line said is

pub returns-in_default-clause-stops : goal.returns-in_default-clause-stops
returns-in_default-clause-stops c = λ line said is. open_beat _ c.in_default.not-Waiting line said is
