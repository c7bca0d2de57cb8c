use Rattle.tl_wide.specs.statement.Pieces.{left_of}
use Rattle.tl_wide_story.proofs.WideReplaying.{passed_all, passed_more, passed_none}
use Rattle.tl_wide_story.proofs.replay.WideReplay.pass_parts.Goals as goal

pub loop-part-init : goal.loop-part-init
loop-part-init g c = passed_none c.args.self.now c.args.link (left_of {p = g.row.P} c.args.beat.now c.args.parts)

pub loop-part-preserved : goal.loop-part-preserved
loop-part-preserved g c =
    passed_more c.args.self.now c.loop-part.self c.take_part.new.self c.args.link
    (left_of {p = g.row.P} c.args.beat.now c.args.parts) (left_of c.args.beat.now c.loop-part.left)
    (left_of c.args.beat.now c.next.new.self) c.in-Some.part c.in-Some.ensures c.loop-part.invariant
    (c.take_part.ensures.records c.if-not-take_part.false)

pub returns : goal.returns
returns g c =
    passed_all c.args.self.now c.loop-part.self c.args.link (left_of {p = g.row.P} c.args.beat.now c.args.parts)
    (left_of c.args.beat.now c.loop-part.left) c.in_default.ensures c.loop-part.invariant
