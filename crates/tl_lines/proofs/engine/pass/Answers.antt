use Rattle.std.proofs.Common.{[]}
use Rattle.std.proofs.lemmas.Result.{err_from_is_err_and}
use Rattle.tl_lines.specs.code.Judging.{KnowsFor}
use Rattle.tl_lines.proofs.Purposes.{feeds_for, gives_up_for, total_for}
use Rattle.tl_lines.proofs.Runs.{fails_unjudged, fails_written, passes}
use Rattle.tl_lines.proofs.GivenUp.{unjudged, unwritten}
use Rattle.tl_lines.proofs.Parts.{short_part}
use Rattle.tl_lines.proofs.engine.pass.Goals as goal

pub returns-clause-ok : goal.returns-clause-ok
returns-clause-ok g c = λ m. (
  c.feed.new.out.items,
  rw c.deref.ensures.value at c.in_ok-write_all.ensures.ok,
  passes (KnowsFor g.H.LineHandler.purpose m g.H.LineHandler.knows) (g.H.LineHandler.tells m) _ _ c.feed.new.self _ c.feed.new.out.items
      (feeds_for g.H.LineHandler.purpose g.H.LineHandler.knows g.H.LineHandler.tells m _ _ c.feed.new.self _ [] _ c.in_ok-status.ensures.purpose
      (rw c.requires.empty at c.in_ok-status.ensures.feeds)),
)

pub returns-in_err-status-clause-err : goal.returns-in_err-status-clause-err
returns-in_err-status-clause-err g c = λ m.
    let p = err_from_is_err_and c.from_residual.result c.from_residual.ensures.1 in
    rw p.1 (fails_unjudged (KnowsFor g.H.LineHandler.purpose m g.H.LineHandler.knows) (g.H.LineHandler.tells m)
    (total_for g.H.LineHandler.purpose g.H.LineHandler.knows g.H.LineHandler.tells m c.requires.total) _ _ _)

pub returns-in_err-write_all-clause-err : goal.returns-in_err-write_all-clause-err
returns-in_err-write_all-clause-err g c = λ m.
    let p = err_from_is_err_and c.from_residual-in_err-write_all.result c.from_residual-in_err-write_all.ensures.1 in
    rw p.1 (fails_written (KnowsFor g.H.LineHandler.purpose m g.H.LineHandler.knows) (g.H.LineHandler.tells m)
    (total_for g.H.LineHandler.purpose g.H.LineHandler.knows g.H.LineHandler.tells m c.requires.total) _ _ c.feed.new.self _
    c.feed.new.out.items _ _
    (feeds_for g.H.LineHandler.purpose g.H.LineHandler.knows g.H.LineHandler.tells m _ _ c.feed.new.self _ [] _ c.in_ok-status.ensures.purpose
    (rw c.requires.empty at c.in_ok-status.ensures.feeds))
    (short_part _ _ _ (rw c.deref.ensures.value at c.in_err-write_all.ensures.err)))

pub returns-in_err-status-clause-fault : goal.returns-in_err-status-clause-fault
returns-in_err-status-clause-fault g c = λ m.
    let p = err_from_is_err_and c.from_residual.result c.from_residual.ensures.1 in
    rw (p.1, p.2) (unjudged (KnowsFor g.H.LineHandler.purpose m g.H.LineHandler.knows) (g.H.LineHandler.tells m) _ _ _ _
    (gives_up_for g.H.LineHandler.purpose g.H.LineHandler.knows g.H.LineHandler.tells m _ _ _ []
    (rw c.requires.empty at c.in_err-status.ensures.fault)))

pub returns-in_err-write_all-clause-fault : goal.returns-in_err-write_all-clause-fault
returns-in_err-write_all-clause-fault g c = λ m.
    let p = err_from_is_err_and c.from_residual-in_err-write_all.result c.from_residual-in_err-write_all.ensures.1 in
    rw (p.1, p.2, c.in_err-write_all.ensures.fault) (unwritten (KnowsFor g.H.LineHandler.purpose m g.H.LineHandler.knows) (g.H.LineHandler.tells m) _ _
    c.feed.new.self _
    c.feed.new.out.items _ _
    (feeds_for g.H.LineHandler.purpose g.H.LineHandler.knows g.H.LineHandler.tells m _ _ c.feed.new.self _ [] _ c.in_ok-status.ensures.purpose
    (rw c.requires.empty at c.in_ok-status.ensures.feeds)) (rw c.deref.ensures.value at c.in_err-write_all.ensures.err))
