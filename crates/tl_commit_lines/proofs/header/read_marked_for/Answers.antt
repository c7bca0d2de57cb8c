use Rattle.std.proofs.Common.{rules}
use Rattle.tl_commit_lines.proofs.MarkedHeaders.{unnamed}
use Rattle.tl_commit_lines.proofs.header.read_marked_for.Goals as goal

pub returns-in_default : goal.returns-in_default
returns-in_default c = unnamed c.args.allow c.args.line.now c.read_marked.result (search rules)
    c.read_marked.ensures.every_spelling
