use Rattle.std.proofs.Common.{refl}
use Rattle.tl_wide_event_story.proofs.LinkRecorded.{link-kept}
use Rattle.tl_wide_event_story.proofs.link_guide.LinkGuide.allow.Goals as goal

pub returns-in-None : goal.returns-in-None
returns-in-None g c = link-kept c.args.self.now _ refl refl refl refl

pub returns-in-Some : goal.returns-in-Some
returns-in-Some g c = link-kept c.args.self.now _ refl refl refl refl
