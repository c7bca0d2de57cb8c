use Rattle.std.proofs.Common.{rules}
use Rattle.tl_wide_event_lines.proofs.WideMarkedHeaders.{unnamed}
use Rattle.tl_wide_event_lines.proofs.header.read_wide_marked_for.Goals as goal

pub returns-in_default : goal.returns-in_default
returns-in_default c = unnamed c.args.allow c.args.line.now c.read_wide_marked.result (search rules)
    c.read_wide_marked.ensures.every_spelling
