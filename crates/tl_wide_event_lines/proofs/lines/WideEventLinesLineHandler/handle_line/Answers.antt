use Rattle.std.proofs.Common.{refl, rules}
use Rattle.tl_wide_event_lines.proofs.TraceJudged.{narrow-says, plain-read}
use Rattle.tl_wide_event_lines.proofs.lines.WideEventLinesLineHandler.handle_line.Goals as goal

pub returns-clause-judges : goal.returns-clause-judges
returns-clause-judges c =
    narrow-says c.args.self.now _ c.args.line.now c.args.out.now.items _ c.handle_line.result
    (plain-read c.args.self.now c.args.line.now (search rules)) refl c.handle_line.ensures.judges
    c.handle_line.ensures.purpose
