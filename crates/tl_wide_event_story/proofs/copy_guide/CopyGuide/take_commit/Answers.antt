use Rattle.tl_events.specs.declared.commit.Event.TheVariants as event
use Rattle.tl_wide_event_story.proofs.CopyFollowed.{came-commit, copy-followed}
use Rattle.tl_wide_event_story.proofs.copy_guide.CopyGuide.take_commit.Goals as goal

pub returns : goal.returns
returns g c = λ on.
    copy-followed c.args.self.now c.note_store.new.self c.take.new.self c.args.number c.args.link
    (event.Commit c.args.narrow) (c.in_ok-take.ensures.takes c.if-not-branch.false) c.take.ensures.same
    c.note_store.ensures.record c.note_store.ensures.link
    (λ e known. rw c.note_store.ensures.giving (came-commit _ _ c.args.link e known c.args.narrow))
