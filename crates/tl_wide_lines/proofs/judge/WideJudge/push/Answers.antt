use Rattle.std.proofs.Common.{inl, inr, refl}
use Rattle.std.proofs.lemmas.Result.{IfOk-weaker}
use Rattle.tl_wide_lines.proofs.judge.WideJudge.push.Goals as goal

pub returns-in_default : goal.returns-in_default
returns-in_default g c = inr (refl, refl, λ t follows. rw c.in_default.is at (c.in_ok-parts.ensures t follows))

pub returns : goal.returns
returns g c = IfOk-weaker c.push_parts.result _ _ (λ answer judged. inl (
  c.in-Some.parts,
  judged,
  λ t follows. rw c.in-Some.is at (c.in_ok-parts.ensures t follows),
)) c.push_parts.ensures
