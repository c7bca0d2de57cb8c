use Rattle.std.proofs.Common.{rules}
use Rattle.tl_commit_story.proofs.Replayed.{line-taken}
use Rattle.tl_commit_story.proofs.replay.Replay.take_line.Goals as goal

pub returns : goal.returns
returns g c = line-taken c.args.self.now c.in_ok-number.number c.args.line.now (search rules) c.go_on.new.self
    c.in_ok-go_on.ensures
