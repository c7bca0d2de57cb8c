use Rattle.std.proofs.Common.{arith}
use Rattle.tl_tables.proofs.Numbered.{numbered_all, numbered_on}
use Rattle.tl_tried.specs.statement.Told.{verdict_text}
use Rattle.tl_tried.proofs.text.append_verdicts.Goals as goal

pub loop-trace-preserved : goal.loop-trace-preserved
loop-trace-preserved c = numbered_on (verdict_text c.args.names.now) c.args.all.now c.loop-trace.trace
    c.index-all-trace.result c.args.out.now.items c.loop-trace.out.items c.append_verdict.new.out.items
    c.loop-trace-test.true c.index-all-trace.is c.in_ok-append_verdict.ensures c.loop-trace.invariant

pub returns : goal.returns
returns c = numbered_all (verdict_text c.args.names.now) c.args.all.now c.loop-trace.trace c.args.out.now.items
    c.loop-trace.out.items (omega arith) c.loop-trace.invariant
