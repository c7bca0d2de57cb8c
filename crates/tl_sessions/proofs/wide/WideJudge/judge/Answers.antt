use Rattle.std.proofs.Common.{inl, inr, rules}
use Rattle.tl_sessions.proofs.wide.WideJudge.judge.Goals as goal

pub returns-in-Err : goal.returns-in-Err
returns-in-Err g c = inr (inl (search rules, c.in-Err.ensures))

pub returns-in-Ok : goal.returns-in-Ok
returns-in-Ok g c =
    inr (inr (search rules, c.left.new.self, c.in-Ok.rest, c.in-Ok.ensures, c.judge_left.ensures))
