use Rattle.tl_events.specs.declared.commit.Event.TheVariants as event
use Rattle.tl_wide_event_story.proofs.CopyFollowed.{copy-followed}
use Rattle.tl_wide_event_story.proofs.copy_guide.CopyGuide.take_part.Goals as goal

pub returns : goal.returns
returns g c = λ on.
    copy-followed c.args.self.now _ c.take.new.self c.args.number c.args.passing.link (event.Beat c.args.part.now)
    (c.in_ok-take.ensures.takes c.if-not-branch.false) c.take.ensures.same c.follow.ensures.record c.follow.ensures.link
    c.in_ok-follow.ensures.counts
