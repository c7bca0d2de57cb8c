use Rattle.std.proofs.Common.{refl, rules}
use Rattle.tl_wide_event_story.proofs.Retold.{line-told}
use Rattle.tl_wide_event_story.proofs.replay.WideEventReplay.tell_line.Goals as goal

pub returns : goal.returns
returns g c = line-told c.args.self.now c.in_ok-number.number c.args.line.now (search rules) c.in-Some.guide _
    c.in-Some.is
    refl refl refl c.in_ok-self.ensures
