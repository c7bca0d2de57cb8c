use Rattle.std.proofs.Common.{refl}
use Rattle.tl_wide_event_story.proofs.LinkRecorded.{link-kept}
use Rattle.tl_wide_event_story.proofs.link_guide.LinkGuide.note_address.Goals as goal

pub returns : goal.returns
returns g c = link-kept c.args.self.now _ refl refl refl refl
