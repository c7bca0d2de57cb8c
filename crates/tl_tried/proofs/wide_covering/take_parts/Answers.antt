use Rattle.std.proofs.Common.{refl}
use Rattle.tl_tried.proofs.WideParts.{part_bad, part_taken, parts_good}
use Rattle.tl_wide.specs.statement.Pieces.{left_of}
use Rattle.tl_tried.proofs.wide_covering.take_parts.Goals as goal

pub loop-part-init : goal.loop-part-init
loop-part-init g c = λ levels may t covers. (t, covers, refl, refl)

pub returns-in-Some-2 : goal.returns-in-Some-2
returns-in-Some-2 g c =
    part_bad c.args.covering.now c.loop-part.covering c.args.link (left_of {p = g.row.P} c.args.beat.now c.args.parts)
    c.take.new.covering c.in-Some.part (left_of c.args.beat.now c.loop-part.left)
    (left_of c.args.beat.now c.next.new.self) c.in-Some-2.fault c.in-Some.ensures c.loop-part.invariant
    (rw c.in-Some-2.is at c.in_ok-fault.ensures)

pub loop-part-preserved : goal.loop-part-preserved
loop-part-preserved g c =
    part_taken c.args.covering.now c.loop-part.covering c.args.link
    (left_of {p = g.row.P} c.args.beat.now c.args.parts) c.take.new.covering c.in-Some.part
    (left_of c.args.beat.now c.loop-part.left) (left_of c.args.beat.now c.next.new.self) c.in-Some.ensures
    c.loop-part.invariant (rw c.in_default-2.is at c.in_ok-fault.ensures)

pub returns : goal.returns
returns g c =
    parts_good c.args.covering.now c.loop-part.covering c.args.link
    (left_of {p = g.row.P} c.args.beat.now c.args.parts) (left_of c.args.beat.now c.loop-part.left)
    c.in_default.ensures c.loop-part.invariant
