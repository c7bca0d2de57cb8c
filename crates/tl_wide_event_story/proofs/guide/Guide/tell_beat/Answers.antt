use Rattle.std.proofs.Common.{refl}
use Rattle.tl_wide.specs.statement.Pieces.{left_of}
use Rattle.tl_wide_event_story.proofs.Grounded.{beat-told, first-more}
use Rattle.tl_wide_event_story.proofs.Guided.{beat-becomes, beat-readies}
use Rattle.tl_wide_event_story.proofs.guide.Guide.tell_beat.Goals as goal

pub returns : goal.returns
returns g c = λ on.
    let mid = record c.args.self.now { narrower = c.narrow.new.self; kind = c.note_address.new.self } in
    beat-told c.requires.part c.args.fault c.args.passing.link c.args.self.now mid c.args.passing.beat.now
    (λ q. left_of {p = q} c.args.passing.beat.now c.in-Some.parts) c.args.out.now.items c.tell_allowed.new.out.items
    (beat-becomes c.args.self.now mid c.args.passing.link c.args.passing.beat.now c.in-Some.parts
    (λ t follows. rw c.in-Some.is at (c.in_ok-narrowed.ensures t follows)))
    (beat-readies c.args.self.now mid c.args.passing.link c.args.passing.beat.now refl refl c.note_address.ensures)
    (first-more mid c.args.fault c.args.passing.link c.args.passing.beat.now
    (left_of {p = g.row.P} c.args.passing.beat.now c.in-Some.parts) c.args.out.now.items c.tell_first.new.out.items
    c.tell_allowed.new.out.items (rw c.in-Some-2.is at c.in_ok-left.ensures) c.in_ok-tell_allowed.ensures)
