use Rattle.tl_events.specs.declared.commit.Event.TheVariants as event
use Rattle.tl_wide_event_story.proofs.Guided.{event-taken}
use Rattle.tl_wide_event_story.proofs.guide.Guide.take_part.Goals as goal

pub returns : goal.returns
returns g c = λ on.
    event-taken c.args.self.now c.note_number.new.self c.take_part.new.self c.in_ok-number.number c.args.passing.link
    c.args.is_later (event.Beat c.args.part.now) c.in_ok-number.ensures
    (c.in_ok-take_part.ensures c.if-not-branch.false)
    c.in_ok-note_number.ensures.same.0 c.in_ok-note_number.ensures.same.1 c.in_ok-note_number.ensures.recorded
    c.in_ok-note_number.ensures.later
