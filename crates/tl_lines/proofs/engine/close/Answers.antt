use Rattle.std.proofs.Common.{[]}
use Rattle.std.proofs.lemmas.Result.{err_from_is_err_and}
use Rattle.tl_lines.specs.code.Judging.{KnowsFor}
use Rattle.tl_lines.proofs.Purposes.{finishes_for, total_for}
use Rattle.tl_lines.proofs.Runs.{fails_unjudged, fails_closing}
use Rattle.tl_lines.proofs.GivenUp.{unfinished, unwritten_at_end}
use Rattle.tl_lines.proofs.Parts.{short_part}
use Rattle.tl_lines.proofs.engine.close.Goals as goal

pub returns-clause-ok : goal.returns-clause-ok
returns-clause-ok g c = λ m. (
  c.finish.new.out.items,
  rw c.deref.ensures.value at c.in_ok-write_all.ensures.ok,
  finishes_for g.H.LineHandler.purpose g.H.LineHandler.knows g.H.LineHandler.tells m _ _ [] c.finish.new.out.items
      (rw c.requires.empty at c.in_ok-status.ensures.finishes),
)

pub returns-in_err-status-clause-err : goal.returns-in_err-status-clause-err
returns-in_err-status-clause-err g c = λ m.
    let p = err_from_is_err_and c.from_residual.result c.from_residual.ensures.1 in
    rw p.1 (fails_unjudged (KnowsFor g.H.LineHandler.purpose m g.H.LineHandler.knows) (g.H.LineHandler.tells m)
    (total_for g.H.LineHandler.purpose g.H.LineHandler.knows g.H.LineHandler.tells m c.requires.total) _ _ _)

pub returns-in_err-write_all-clause-err : goal.returns-in_err-write_all-clause-err
returns-in_err-write_all-clause-err g c = λ m.
    let p = err_from_is_err_and c.from_residual-in_err-write_all.result c.from_residual-in_err-write_all.ensures.1 in
    rw p.1 (fails_closing (KnowsFor g.H.LineHandler.purpose m g.H.LineHandler.knows) (g.H.LineHandler.tells m) _ _ c.finish.new.out.items _ _
    (finishes_for g.H.LineHandler.purpose g.H.LineHandler.knows g.H.LineHandler.tells m _ _ [] _
    (rw c.requires.empty at c.in_ok-status.ensures.finishes))
    (short_part _ _ _ (rw c.deref.ensures.value at c.in_err-write_all.ensures.err)))

pub returns-in_err-status-clause-fault : goal.returns-in_err-status-clause-fault
returns-in_err-status-clause-fault g c = λ m.
    let p = err_from_is_err_and c.from_residual.result c.from_residual.ensures.1 in
    rw (p.1, p.2) (unfinished (KnowsFor g.H.LineHandler.purpose m g.H.LineHandler.knows) (g.H.LineHandler.tells m) _ _ _ c.in_err-status.ensures.fault)

pub returns-in_err-write_all-clause-fault : goal.returns-in_err-write_all-clause-fault
returns-in_err-write_all-clause-fault g c = λ m.
    let p = err_from_is_err_and c.from_residual-in_err-write_all.result c.from_residual-in_err-write_all.ensures.1 in
    rw (p.1, p.2, c.in_err-write_all.ensures.fault) (unwritten_at_end (KnowsFor g.H.LineHandler.purpose m g.H.LineHandler.knows) (g.H.LineHandler.tells m) _ _
    c.finish.new.out.items _ _
    (finishes_for g.H.LineHandler.purpose g.H.LineHandler.knows g.H.LineHandler.tells m _ _ [] _
    (rw c.requires.empty at c.in_ok-status.ensures.finishes))
    (rw c.deref.ensures.value at c.in_err-write_all.ensures.err))
