use Rattle.std.proofs.Common.{sym}
use Rattle.tl_tried.proofs.EventCounted.{line-read, line-unread}
use Rattle.tl_tried.proofs.event_covering.EventCovering.take_line.Goals as goal

pub returns-in-Ok : goal.returns-in-Ok
returns-in-Ok g c =
    line-read c.args.self.now c.push.new.self c.args.line.now c.in-Ok.link c.in-Ok.event c.push.result
    c.in-Ok.ensures.spelled c.push.ensures

pub returns-in-Err : goal.returns-in-Err
returns-in-Err g c = line-unread c.args.self.now c.args.line.now c.in-Err.fault (sym c.in-Err.ensures.fault)
