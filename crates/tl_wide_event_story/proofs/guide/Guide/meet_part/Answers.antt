use Rattle.tl_events.specs.declared.commit.Event.TheVariants as event
use Rattle.tl_wide_event_story.proofs.Guided.{event-taken}
use Rattle.tl_wide_event_story.proofs.guide.Guide.meet_part.Goals as goal

pub returns-in-AtFault : goal.returns-in-AtFault
returns-in-AtFault g c = rw c.in-AtFault.is at c.in_ok-met.ensures

pub returns-in_ok-note_number-in-Taken : goal.returns-in_ok-note_number-in-Taken
returns-in_ok-note_number-in-Taken g c =
    let met = rw c.in-Taken.is at c.in_ok-met.ensures in (
      event-taken c.args.self.now c.note_number.new.self c.meet_part.new.self c.in_ok-number.number c.args.passing.link
          c.args.is_later (event.Beat c.args.part.now) c.in_ok-number.ensures met.0
          c.in_ok-note_number-in-Taken.ensures.same.0 c.in_ok-note_number-in-Taken.ensures.same.1
          c.in_ok-note_number-in-Taken.ensures.recorded
          c.in_ok-note_number-in-Taken.ensures.later,
      met.1,
    )
