use Rattle.std.proofs.Common.{rules}
use Rattle.tl_params.proofs.Headers.{version_read, version_unread}
use Rattle.tl_schedule.proofs.header.whole_header.Goals as goal

pub returns-in_err-version : goal.returns-in_err-version
returns-in_err-version c =
    let unread = version_unread _ c.in_err-version.ensures in
    search (rules, unread)

pub returns-in_err-trackers : goal.returns-in_err-trackers
returns-in_err-trackers c =
    let read = version_read _ _ _ c.in_ok-version.ensures in
    search (rules, read)

pub returns-in_err-clients : goal.returns-in_err-clients
returns-in_err-clients c =
    let read = version_read _ _ _ c.in_ok-version.ensures in
    search (rules, read)

pub returns-then-is_empty : goal.returns-then-is_empty
returns-then-is_empty c =
    let read = version_read _ _ _ c.in_ok-version.ensures in
    search (rules, read)

pub returns : goal.returns
returns c =
    let read = version_read _ _ _ c.in_ok-version.ensures in
    search (rules, read)
