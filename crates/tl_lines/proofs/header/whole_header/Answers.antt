use Rattle.std.proofs.Common.{rules}
use Rattle.tl_params.proofs.Headers.{version_unread}
use Rattle.tl_lines.proofs.header.whole_header.Goals as goal

pub returns-in_err-version : goal.returns-in_err-version
returns-in_err-version c =
    let unread = version_unread _ c.in_err-version.ensures in
    search (rules, unread)
