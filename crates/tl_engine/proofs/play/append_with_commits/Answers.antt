use Rattle.tl_engine.proofs.Committed.{writes-commits}
use Rattle.tl_engine.proofs.play.append_with_commits.Goals as goal

pub returns : goal.returns
returns g c =
    writes-commits c.args.stores.now c.note.new.self c.args.event.now c.args.outcome.now c.granted-granted.result
    c.args.out.now.items c.append_trace.new.out.items c.append_commits.new.out.items c.note.result
    c.in_ok-append_trace.ensures c.in_ok-append_commits.ensures c.granted-granted.ensures c.note.ensures
