use Rattle.tl_wide_story.proofs.WideReplaying.{guilty_part}
use Rattle.tl_wide_story.proofs.replay.WideReplay.tell_part.Goals as goal

pub returns : goal.returns
returns g c = λ yes. guilty_part c.args.self.now c.in-Rule.rule c.args.link c.args.part.now c.in-Rule.is
    (c.in_ok-told.ensures yes)
