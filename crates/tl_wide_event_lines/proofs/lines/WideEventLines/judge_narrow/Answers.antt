use Rattle.std.proofs.Common.{refl, rules}
use Rattle.tl_wide_event_lines.proofs.TraceJudged.{commits-read, narrow-says, no-commits}
use Rattle.tl_wide_event_lines.proofs.lines.WideEventLines.judge_narrow.Goals as goal

pub start-requires-clause-new : goal.start-requires-clause-new
start-requires-clause-new c = no-commits c.args.self.now.narrow.events (search rules)

pub returns-then-has_commits-clause-judges : goal.returns-then-has_commits-clause-judges
returns-then-has_commits-clause-judges c =
    narrow-says c.args.self.now _ c.args.line.now c.args.out.now.items _ c.handle_line.result
    (commits-read c.args.self.now c.args.line.now c.requires.none (search rules)) refl c.handle_line.ensures.judges
    c.handle_line.ensures.purpose
