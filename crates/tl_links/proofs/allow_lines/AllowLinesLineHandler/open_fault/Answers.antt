use Rattle.tl_links.proofs.AllowedLines.{open_ends}
use Rattle.tl_links.proofs.allow_lines.AllowLinesLineHandler.open_fault.Goals as goal

pub returns-in-Waiting-clause-ends : goal.returns-in-Waiting-clause-ends
returns-in-Waiting-clause-ends c = λ line is. open_ends c.args.self.now line is

pub returns-in_default : goal.returns-in_default
returns-in_default c = record {
  stops = λ line said is lines before known more. tt;
  ends = λ line is. open_ends c.args.self.now line is;
}
