use Rattle.std.proofs.Common.{[], ◌∷◌, false, refl}
use Rattle.tl_events.specs.declared.commit.Event.TheVariants as event
use Rattle.tl_wide_events.specs.declared.commit.WideEvent.TheVariants as wide_event
use Rattle.tl_wide_event_story.proofs.Guided.{commit-becomes, commit-readies, event-taken, one-taken, wide-taken}
use Rattle.tl_wide_event_story.proofs.guide.Guide.take_commit.Goals as goal

pub returns : goal.returns
returns g c = λ on.
    let mid = record c.args.self.now { narrower = c.narrow_commit.new.narrower } in
    wide-taken c.requires.part c.args.link (wide_event.Commit c.args.commit) (λ q. event.Commit c.in-Some.narrow ∷ [])
    c.args.self.now mid c.note_number.new.self
    (commit-becomes c.args.self.now mid c.args.link c.args.commit c.in-Some.narrow
    (λ t follows. rw c.in-Some.is at (c.in_ok-narrow.ensures.narrowed _ t follows)))
    (commit-readies c.args.self.now mid c.args.link c.args.commit refl refl refl)
    (one-taken mid c.note_number.new.self c.args.link (event.Commit c.in-Some.narrow)
    (event-taken mid c.note_number.new.self c.take_commit.new.self c.in_ok-number.number c.args.link false
    (event.Commit c.in-Some.narrow) c.in_ok-number.ensures (c.in_ok-take_commit.ensures c.if-not-branch.false)
    c.in_ok-note_number.ensures.same.0 c.in_ok-note_number.ensures.same.1 c.in_ok-note_number.ensures.recorded
    c.in_ok-note_number.ensures.later))
