use Rattle.std.proofs.Common.{rules}
use Rattle.std.proofs.lemmas.Result.{err_from_is_err_and, on_ok_weaker}
use Rattle.tl_reasons.proofs.Replaying.{same_liberties}
use Rattle.tl_wide_story.proofs.explain.append_story.Goals as goal

pub returns-clause-ok : goal.returns-clause-ok
returns-clause-ok g c = on_ok_weaker c.append_lesson.result
    (λ learned. (
      learned.0,
      same_liberties c.args.story.now.replay.allow c.args.allow c.ne.result c.ne.ensures c.if-ne.false,
      search rules,
      search rules,
      search rules,
    ))
    c.append_lesson.ensures.ok

pub returns-in_err-is_verdict-clause-fault : goal.returns-in_err-is_verdict-clause-fault
returns-in_err-is_verdict-clause-fault g c =
    let p = err_from_is_err_and c.from_residual.result c.from_residual.ensures.1 in rw (p.1, p.2) (λ same. absurd cc)

pub returns-in_err-extend_from_slice-clause-fault : goal.returns-in_err-extend_from_slice-clause-fault
returns-in_err-extend_from_slice-clause-fault g c =
    let p = err_from_is_err_and c.from_residual-in_err-extend_from_slice.result
    c.from_residual-in_err-extend_from_slice.ensures.1 in
    rw (p.1, p.2) (λ same. absurd cc)
