use Rattle.tl_links.proofs.AllowedLines.{none_there}
use Rattle.tl_links.proofs.allow_lines.AllowLinesLineHandler.finish.Goals as goal

pub returns-in-Waiting-clause-ends : goal.returns-in-Waiting-clause-ends
returns-in-Waiting-clause-ends c = λ fault is. none_there c.args.self.now _ c.in-Waiting.is
