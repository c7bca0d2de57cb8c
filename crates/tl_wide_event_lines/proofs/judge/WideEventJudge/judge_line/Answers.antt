use Rattle.std.proofs.Common.{inl, inr, refl, sym}
use Rattle.std.proofs.lemmas.Result.{IfOk-weaker}
use Rattle.tl_wide_event_lines.proofs.judge.WideEventJudge.judge_line.Goals as goal

pub returns-in-Err : goal.returns-in-Err
returns-in-Err g c = inl (c.in-Err.fault, sym c.in-Err.ensures.fault, refl)

pub returns-in-Ok : goal.returns-in-Ok
returns-in-Ok g c = IfOk-weaker c.push.result _ _ (λ answer judged. inr (
  c.in-Ok.link,
  c.in-Ok.event,
  c.in-Ok.ensures.spelled,
  judged,
)) c.push.ensures
