use Rattle.std.proofs.Common.{refl, rules}
use Rattle.tl_commit_lines.proofs.EventsJudged.{plain-judged, plain-read}
use Rattle.tl_commit_lines.proofs.lines.EventLinesLineHandler.handle_line.Goals as goal

pub returns-clause-judges : goal.returns-clause-judges
returns-clause-judges c =
    plain-judged c.args.self.now _ c.args.line.now c.args.out.now.items _ c.handle_line.result
    (plain-read c.args.self.now c.args.line.now (search rules)) refl c.handle_line.ensures.judges
    c.handle_line.ensures.purpose
