use Rattle.std.proofs.Common.{refl}
use Rattle.tl_wide_event_story.proofs.LinkRecorded.{link-begun}
use Rattle.tl_wide_event_story.proofs.link_guide.LinkGuide.new.Goals as goal

pub returns : goal.returns
returns g c = link-begun _ c.args.links.now.may c.args.links.now.levels.items refl
    (rw c.with_liberties.ensures.subject c.level_of.ensures) (c.with_liberties.ensures.record g.row.P) refl
