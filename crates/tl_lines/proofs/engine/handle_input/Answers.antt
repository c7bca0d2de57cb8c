use Rattle.std.proofs.Common.{rules, ap, [], refl}
use Rattle.std.specs.Prelude.{Ok}
use Rattle.std.proofs.KnownBytes.{Appends-nil, Consumes-nil, Keeps-refl}
use Rattle.std.proofs.lemmas.Result.{err_from_is_err_and}
use Rattle.tl_lines.specs.code.Judging.{KnowsFor}
use Rattle.tl_lines.proofs.Purposes.{total_for, with_purpose}
use Rattle.tl_lines.proofs.Runs.{fails_at_start, fails_reading, fails_passing, ends_broken, goes_on, closed_ok}
use Rattle.tl_lines.proofs.Runs.{closed_err}
use Rattle.tl_lines.proofs.GivenUp.{given_up_at_start, given_up_reading, given_up_passing, given_up_closing}
use Rattle.tl_lines.proofs.GivenUp.{piece_or_end}
use Rattle.tl_lines.proofs.engine.handle_input.Goals as goal

pub returns-in_err-chunk-clause-err : goal.returns-in_err-chunk-clause-err
returns-in_err-chunk-clause-err g c =
    let p = err_from_is_err_and c.from_residual.result c.from_residual.ensures.1 in
    rw p.1 (fails_at_start (KnowsFor g.H.LineHandler.purpose (g.H.LineHandler.purpose c.args.handler) g.H.LineHandler.knows) (g.H.LineHandler.tells (g.H.LineHandler.purpose c.args.handler))
    (total_for g.H.LineHandler.purpose g.H.LineHandler.knows g.H.LineHandler.tells (g.H.LineHandler.purpose c.args.handler) c.requires.total) _ _ _
    (c.requires.begins, refl))

pub loop-init : goal.loop-init
loop-init g c = record {
  empty = search rules;
  room = search rules;
  so_far = (
    [],
    [],
    Consumes-nil _,
    Appends-nil _,
    with_purpose g.H.LineHandler.purpose g.H.LineHandler.knows g.H.LineHandler.tells
        (g.H.LineHandler.purpose c.args.handler) c.new-lines.result [] [] (c.new-lines.ensures.knows c.requires.begins)
        (ap g.H.LineHandler.purpose c.new-lines.ensures.handler),
  );
}

pub returns-in_err-count-clause-err : goal.returns-in_err-count-clause-err
returns-in_err-count-clause-err g c =
    let p = err_from_is_err_and c.from_residual-in_err-count.result c.from_residual-in_err-count.ensures.1 in
    rw p.1 (fails_reading (KnowsFor g.H.LineHandler.purpose (g.H.LineHandler.purpose c.args.handler) g.H.LineHandler.knows) (g.H.LineHandler.tells (g.H.LineHandler.purpose c.args.handler)) _ _ _ _ _ c.loop.invariant.so_far
    (total_for g.H.LineHandler.purpose g.H.LineHandler.knows g.H.LineHandler.tells (g.H.LineHandler.purpose c.args.handler) c.requires.total)
    _ c.in_err-count.ensures.err)

pub returns-then-count-eq0-clause-ok : goal.returns-then-count-eq0-clause-ok
returns-then-count-eq0-clause-ok g c =
    closed_ok (KnowsFor g.H.LineHandler.purpose (g.H.LineHandler.purpose c.args.handler) g.H.LineHandler.knows) (g.H.LineHandler.tells (g.H.LineHandler.purpose c.args.handler)) _ _ _ _ _ c.loop.invariant.so_far _ _ _ _ _
    c.if-count-eq0.true c.in_ok-count.ensures.ok
    (c.in_ok-count.ensures.end (ap Ok c.if-count-eq0.true)) (c.close.ensures.ok (g.H.LineHandler.purpose c.args.handler))

pub returns-then-count-eq0-clause-err : goal.returns-then-count-eq0-clause-err
returns-then-count-eq0-clause-err g c =
    closed_err (KnowsFor g.H.LineHandler.purpose (g.H.LineHandler.purpose c.args.handler) g.H.LineHandler.knows) (g.H.LineHandler.tells (g.H.LineHandler.purpose c.args.handler)) _ _ _ _ _ c.loop.invariant.so_far _ _ _ _ _
    c.if-count-eq0.true c.in_ok-count.ensures.ok (c.close.ensures.err (g.H.LineHandler.purpose c.args.handler))

pub returns-in_err-pass-clause-err : goal.returns-in_err-pass-clause-err
returns-in_err-pass-clause-err g c =
    let p = err_from_is_err_and c.from_residual-in_err-pass.result c.from_residual-in_err-pass.ensures.1 in
    rw p.1 (fails_passing (KnowsFor g.H.LineHandler.purpose (g.H.LineHandler.purpose c.args.handler) g.H.LineHandler.knows) (g.H.LineHandler.tells (g.H.LineHandler.purpose c.args.handler)) _ _ _ _ _ c.loop.invariant.so_far _ _ _
    c.in_ok-count.ensures.ok (rw c.deref.ensures.value at (c.in_err-pass.ensures.err (g.H.LineHandler.purpose c.args.handler))))

pub returns-in-Broken-clause-ok : goal.returns-in-Broken-clause-ok
returns-in-Broken-clause-ok g c =
    let (said, written, broken) = rw (c.deref.ensures.value, c.in-Broken.is) at (c.in_ok-pass.ensures.ok (g.H.LineHandler.purpose c.args.handler)) in
    ends_broken (KnowsFor g.H.LineHandler.purpose (g.H.LineHandler.purpose c.args.handler) g.H.LineHandler.knows) (g.H.LineHandler.tells (g.H.LineHandler.purpose c.args.handler)) _ _ _ _ _ c.loop.invariant.so_far _ _ _ said
    c.pass.new.lines c.in_ok-count.ensures.ok written broken

pub loop-preserved : goal.loop-preserved
loop-preserved g c = record {
  empty = search rules;
  room = search rules;
  so_far =
      let (said, written, clean) = rw (c.deref.ensures.value, c.in-Clean.is) at (c.in_ok-pass.ensures.ok (g.H.LineHandler.purpose c.args.handler)) in
      goes_on (KnowsFor g.H.LineHandler.purpose (g.H.LineHandler.purpose c.args.handler) g.H.LineHandler.knows) (g.H.LineHandler.tells (g.H.LineHandler.purpose c.args.handler)) _ _ _ _ _ c.loop.invariant.so_far _ _ _ said _
      c.in_ok-count.ensures.ok written clean;
}

pub returns-clause-err : goal.returns-clause-err
returns-clause-err g c = fails_reading (KnowsFor g.H.LineHandler.purpose (g.H.LineHandler.purpose c.args.handler) g.H.LineHandler.knows) (g.H.LineHandler.tells (g.H.LineHandler.purpose c.args.handler)) _ _ _ _ _ c.loop.invariant.so_far
    (total_for g.H.LineHandler.purpose g.H.LineHandler.knows g.H.LineHandler.tells (g.H.LineHandler.purpose c.args.handler) c.requires.total) _ (Keeps-refl _)

pub returns-in_err-chunk-clause-fault : goal.returns-in_err-chunk-clause-fault
returns-in_err-chunk-clause-fault g c =
    let p = err_from_is_err_and c.from_residual.result c.from_residual.ensures.1 in
    rw (p.1, p.2) (given_up_at_start (KnowsFor g.H.LineHandler.purpose (g.H.LineHandler.purpose c.args.handler) g.H.LineHandler.knows) (g.H.LineHandler.tells (g.H.LineHandler.purpose c.args.handler)) _ _ _
    (c.requires.begins, refl))

pub returns-in_err-count-clause-fault : goal.returns-in_err-count-clause-fault
returns-in_err-count-clause-fault g c =
    let p = err_from_is_err_and c.from_residual-in_err-count.result c.from_residual-in_err-count.ensures.1 in
    rw (p.1, p.2, c.in_err-count.ensures.fault) (given_up_reading (KnowsFor g.H.LineHandler.purpose (g.H.LineHandler.purpose c.args.handler) g.H.LineHandler.knows) (g.H.LineHandler.tells (g.H.LineHandler.purpose c.args.handler)) _ _ _ _ _
    c.loop.invariant.so_far _ c.in_err-count.ensures.err)

pub returns-then-count-eq0-clause-fault : goal.returns-then-count-eq0-clause-fault
returns-then-count-eq0-clause-fault g c =
    given_up_closing (KnowsFor g.H.LineHandler.purpose (g.H.LineHandler.purpose c.args.handler) g.H.LineHandler.knows) (g.H.LineHandler.tells (g.H.LineHandler.purpose c.args.handler)) _ _ _ _ _ c.loop.invariant.so_far _ _ _ _ _
    c.if-count-eq0.true c.in_ok-count.ensures.ok
    (c.in_ok-count.ensures.end (ap Ok c.if-count-eq0.true)) (c.close.ensures.fault (g.H.LineHandler.purpose c.args.handler))

pub returns-in_err-pass-clause-fault : goal.returns-in_err-pass-clause-fault
returns-in_err-pass-clause-fault g c =
    let p = err_from_is_err_and c.from_residual-in_err-pass.result c.from_residual-in_err-pass.ensures.1 in
    rw (p.1, p.2) (given_up_passing (KnowsFor g.H.LineHandler.purpose (g.H.LineHandler.purpose c.args.handler) g.H.LineHandler.knows) (g.H.LineHandler.tells (g.H.LineHandler.purpose c.args.handler)) _ _ _ _ _ c.loop.invariant.so_far
    _ _ _ _ c.in_ok-count.ensures.ok (piece_or_end _ _ _ (search rules) (search rules))
    (rw c.deref.ensures.value at (c.in_err-pass.ensures.fault (g.H.LineHandler.purpose c.args.handler))))

pub returns-clause-fault : goal.returns-clause-fault
returns-clause-fault g c =
    given_up_reading (KnowsFor g.H.LineHandler.purpose (g.H.LineHandler.purpose c.args.handler) g.H.LineHandler.knows) (g.H.LineHandler.tells (g.H.LineHandler.purpose c.args.handler)) _ _ _ _ _ c.loop.invariant.so_far _ (Keeps-refl _)
