use Rattle.std.proofs.Common.{sym}
use Rattle.tl_engine.proofs.ChartedLines.{at_line, reads_none}
use Rattle.tl_engine.proofs.charting.Charting.read.Goals as goal

pub returns-in-Ok : goal.returns-in-Ok
returns-in-Ok g c = at_line c.args.self.now c.take.new.self c.args.line.now c.in-Ok.link c.in-Ok.beat c.take.result
    c.take.ensures c.in-Ok.ensures.spelled

pub returns-in-Err : goal.returns-in-Err
returns-in-Err g c = λ allow.
    reads_none allow c.args.self.now c.args.line.now c.in-Err.fault (sym c.in-Err.ensures.fault)
