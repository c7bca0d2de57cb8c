use Rattle.tl_lines.proofs.GivenUp.{given_up_told}
use Rattle.tl_lines.specs.code.Judging.{KnowsFor}
use Rattle.tl_wide_lines.proofs.TraceJudged.{made-for, trace-so-far, trace-total}
use Rattle.tl_wide_lines.specs.code.WideWatching.{KnowsTraceLines, trace_judged_for}
use Rattle.tl_wide_lines.specs.statement.JudgedTrace.{JudgedTrace, TraceSoFar}
use Rattle.tl_wide_lines.proofs.run.run_trace.Goals as goal

pub handle_input-requires-clause-total : goal.handle_input-requires-clause-total
handle_input-requires-clause-total g c = trace-total

pub returns-clause-ok : goal.returns-clause-ok
returns-clause-ok g c =
    let same = made-for c.new.result c.args.together c.args.allow c.new.ensures.purpose in
    rw (same.0, same.1) at c.handle_input.ensures.ok

pub returns-clause-err : goal.returns-clause-err
returns-clause-err g c =
    let same = made-for c.new.result c.args.together c.args.allow c.new.ensures.purpose in
    rw (same.0, same.1) at c.handle_input.ensures.err

pub returns-clause-fault : goal.returns-clause-fault
returns-clause-fault g c =
    let same = made-for c.new.result c.args.together c.args.allow c.new.ensures.purpose in
    given_up_told (KnowsFor trace_judged_for (c.args.together, c.args.allow) KnowsTraceLines)
    (JudgedTrace c.args.together c.args.allow) (TraceSoFar c.args.together c.args.allow)
    (trace-so-far c.args.together c.args.allow)
    _ _ _ _ _ (rw (same.0, same.1) at (rw c.new.ensures.purpose at c.handle_input.ensures.fault))
