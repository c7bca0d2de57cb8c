use Rattle.std.proofs.Common.{◌≡◌, None, rules}
use Rattle.tl_params.proofs.Headers.{level_unread}
use Rattle.tl_commit_lines.proofs.HeaderLinks.{no-level}
use Rattle.tl_commit_lines.proofs.header.front_marked.Goals as goal

pub returns-in_err-level : goal.returns-in_err-level
returns-in_err-level c =
    let none : c.from_residual.result ≡ None = search rules in
    rw none (no-level c.args.bytes.now (level_unread _ c.in_err-level.ensures))
