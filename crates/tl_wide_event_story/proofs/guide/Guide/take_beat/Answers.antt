use Rattle.std.proofs.Common.{refl}
use Rattle.std.proofs.lemmas.Result.{IfOk-weaker}
use Rattle.tl_wide.specs.statement.Pieces.{left_of}
use Rattle.tl_wide_events.specs.declared.commit.WideEvent.TheVariants as wide_event
use Rattle.tl_wide_events.specs.statement.Narrowed.{as_events}
use Rattle.tl_wide_event_story.proofs.Guided.{beat-becomes, beat-readies, wide-taken}
use Rattle.tl_wide_event_story.proofs.guide.Guide.take_beat.Goals as goal

pub returns : goal.returns
returns g c =
    let mid = record c.args.self.now { narrower = c.narrow.new.self; kind = c.note_address.new.self } in
    IfOk-weaker c.take_parts.result _ _
    (λ on takes. λ yes.
    wide-taken c.requires.part c.args.passing.link (wide_event.Beat c.args.passing.beat.now)
    (λ q. as_events (left_of {p = q} c.args.passing.beat.now c.in-Some.parts)) c.args.self.now mid c.take_parts.new.self
    (beat-becomes c.args.self.now mid c.args.passing.link c.args.passing.beat.now c.in-Some.parts
    (λ t follows. rw c.in-Some.is at (c.in_ok-narrowed.ensures t follows)))
    (beat-readies c.args.self.now mid c.args.passing.link c.args.passing.beat.now refl refl c.note_address.ensures)
    (takes yes)) c.take_parts.ensures
