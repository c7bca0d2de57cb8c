use Rattle.tl_wide.specs.statement.Pieces.{left_of}
use Rattle.tl_wide_event_story.proofs.Guided.{parts-all, parts-more, parts-none}
use Rattle.tl_wide_event_story.proofs.guide.Guide.take_parts.Goals as goal

pub loop-part-init : goal.loop-part-init
loop-part-init g c = parts-none c.args.self.now c.args.passing.link
    (left_of {p = g.row.P} c.args.passing.beat.now c.args.parts)

pub loop-part-preserved : goal.loop-part-preserved
loop-part-preserved g c =
    parts-more c.args.self.now c.loop-part.self c.take_part.new.self c.args.passing.link c.loop-part.is_later
    (left_of {p = g.row.P} c.args.passing.beat.now c.args.parts) (left_of c.args.passing.beat.now c.loop-part.left)
    (left_of c.args.passing.beat.now c.next.new.self) c.in-Some.part c.in-Some.ensures c.loop-part.invariant
    (c.in_ok-take_part.ensures c.if-not-branch.false)

pub returns : goal.returns
returns g c = λ on.
    parts-all c.args.self.now c.loop-part.self c.args.passing.link c.loop-part.is_later
    (left_of {p = g.row.P} c.args.passing.beat.now c.args.parts) (left_of c.args.passing.beat.now c.loop-part.left)
    c.in_default.ensures c.loop-part.invariant
