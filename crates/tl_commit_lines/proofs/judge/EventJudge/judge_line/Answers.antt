use Rattle.tl_commit_lines.proofs.Pushed.{line-watched}
use Rattle.tl_commit_lines.proofs.judge.EventJudge.judge_line.Goals as goal

pub returns-in-Ok : goal.returns-in-Ok
returns-in-Ok g c =
    line-watched c.in-Ok.link c.args.self.now c.push.new.self c.args.line.now c.in-Ok.event c.push.result
    c.in-Ok.ensures.spelled c.push.ensures
