use Rattle.tl_engine.proofs.Committed.{writes-outcome, writes-trace}
use Rattle.tl_engine.proofs.play.append_event.Goals as goal

pub returns-in-Outcomes : goal.returns-in-Outcomes
returns-in-Outcomes g c = rw c.in-Outcomes.is (writes-outcome c.args.stores.now c.args.event.now c.args.outcome.now
    c.args.out.now.items c.append_outcome.new.out.items c.append_outcome.result c.append_outcome.ensures)

pub returns-in-Trace : goal.returns-in-Trace
returns-in-Trace g c = rw c.in-Trace.is (writes-trace c.args.stores.now c.args.event.now c.args.outcome.now
    c.args.out.now.items c.append_trace.new.out.items c.append_trace.result c.append_trace.ensures)

pub returns-in-TraceWithCommits : goal.returns-in-TraceWithCommits
returns-in-TraceWithCommits g c = rw c.in-TraceWithCommits.is c.append_with_commits.ensures
