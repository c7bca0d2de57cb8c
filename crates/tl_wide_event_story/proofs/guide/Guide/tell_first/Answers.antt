use Rattle.std.proofs.Common.{◌∙◌, ◌++◌, ℕ, List, ap, refl}
use Rattle.tl_beat.specs.declared.beat.Beat.{Beat}
use Rattle.tl_wide.specs.statement.Pieces.{left_of}
use Rattle.tl_wide_event_story.proofs.Grounded.{first-told}
use Rattle.tl_wide_event_story.proofs.Guided.{parts-more, parts-none}
use Rattle.tl_wide_event_story.proofs.guide.Guide.tell_first.Goals as goal

pub loop-part-init : goal.loop-part-init
loop-part-init g c =
    (parts-none c.args.self.now c.args.passing.link (left_of {p = g.row.P} c.args.passing.beat.now c.args.parts), refl)

pub loop-part-preserved : goal.loop-part-preserved
loop-part-preserved g c = (
  parts-more c.args.self.now c.loop-part.self c.meet_part.new.self c.args.passing.link c.loop-part.is_later
      (left_of {p = g.row.P} c.args.passing.beat.now c.args.parts) (left_of c.args.passing.beat.now c.loop-part.left)
      (left_of c.args.passing.beat.now c.next.new.self) c.in-Some.part c.in-Some.ensures c.loop-part.invariant.0
      (rw c.in-Taken.is at c.in_ok-meet_part.ensures).0,
  (rw c.in-Taken.is at c.in_ok-meet_part.ensures).1 ∙ c.loop-part.invariant.1,
)

pub returns-in-AtFault : goal.returns-in-AtFault
returns-in-AtFault g c =
    let so_far = c.loop-part.invariant.0 in
    let met = rw c.in-AtFault.is at c.in_ok-meet_part.ensures in
    first-told c.args.self.now c.loop-part.self c.args.fault c.args.passing.link c.args.passing.beat.now
    (left_of {p = g.row.P} c.args.passing.beat.now c.args.parts) so_far.first
    (left_of c.args.passing.beat.now c.next.new.self) c.in-Some.part c.args.out.now.items c.meet_part.new.out.items
    met.0
    (so_far.parts_are ∙ ap (λ (l : List (Beat g.row.P)). so_far.first ++ l) c.in-Some.ensures) so_far.takes
    (met.1 ∙ ap (λ (l : List ℕ). l ++ met.0) c.loop-part.invariant.1) met.2
