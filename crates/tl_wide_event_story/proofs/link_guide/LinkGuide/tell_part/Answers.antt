use Rattle.tl_wide_event_story.proofs.LinkRecorded.{link-convicts}
use Rattle.tl_wide_event_story.proofs.link_guide.LinkGuide.tell_part.Goals as goal

pub returns : goal.returns
returns g c = λ yes. link-convicts c.args.self.now c.args.link c.args.rule c.args.part.now (c.in_ok-told.ensures yes)
