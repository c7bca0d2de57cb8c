use Rattle.std.proofs.Common.{sym}
use Rattle.tl_lines.specs.declared.fault.Fault.TheVariants.{Line}
use Rattle.tl_links.proofs.AllowedLines.{line_taken, line_unread}
use Rattle.tl_links.proofs.allow_lines.Watch.read.Goals as goal

pub returns-in-Ok : goal.returns-in-Ok
returns-in-Ok g c = line_taken c.args.self.now c.take.new.self c.args.line.now c.in-Ok.link c.in-Ok.beat c.take.result
    c.in-Ok.ensures.spelled c.take.ensures

pub returns-in-Err : goal.returns-in-Err
returns-in-Err g c = line_unread c.args.self.now c.args.line.now c.in-Err.fault (Line c.in-Err.fault)
    (sym c.in-Err.ensures.fault)
