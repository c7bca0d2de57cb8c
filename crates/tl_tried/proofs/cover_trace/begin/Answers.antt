use Rattle.tl_wide.specs.declared.width.WideWidth.TheVariants.{Four, Eight, Sixteen, ThirtyTwo, SixtyFour}
use Rattle.tl_tried.proofs.WideCounted.{header-counted}
use Rattle.tl_tried.proofs.cover_trace.begin.Goals as goal
use Rattle.tl_tried.proofs.cover_trace.begin.Goals.{in-Four+in_ok-new-in-Four}
use Rattle.tl_tried.proofs.cover_trace.begin.Goals.{in-Eight+in_ok-new-in-Eight}
use Rattle.tl_tried.proofs.cover_trace.begin.Goals.{in-Sixteen+in_ok-new-in-Sixteen}
use Rattle.tl_tried.proofs.cover_trace.begin.Goals.{in-ThirtyTwo+in_ok-new-in-ThirtyTwo}
use Rattle.tl_tried.proofs.cover_trace.begin.Goals.{in-SixtyFour+in_ok-new-in-SixtyFour}

pub returns : goal.returns
returns c = elim c.match-header.branch [
  | in-Four+in_ok-new-in-Four w ↦
      rw w.following-is (header-counted Four c.args.allow c.args.line.now _ _ _
      (rw w.in-Four.is at c.in-Some.ensures) w.in_ok-new-in-Four.ensures)
  | in-Eight+in_ok-new-in-Eight w ↦
      rw w.following-is (header-counted Eight c.args.allow c.args.line.now _ _ _
      (rw w.in-Eight.is at c.in-Some.ensures) w.in_ok-new-in-Eight.ensures)
  | in-Sixteen+in_ok-new-in-Sixteen w ↦
      rw w.following-is (header-counted Sixteen c.args.allow c.args.line.now _ _ _
      (rw w.in-Sixteen.is at c.in-Some.ensures) w.in_ok-new-in-Sixteen.ensures)
  | in-ThirtyTwo+in_ok-new-in-ThirtyTwo w ↦
      rw w.following-is (header-counted ThirtyTwo c.args.allow c.args.line.now _ _ _
      (rw w.in-ThirtyTwo.is at c.in-Some.ensures) w.in_ok-new-in-ThirtyTwo.ensures)
  | in-SixtyFour+in_ok-new-in-SixtyFour w ↦
      rw w.following-is (header-counted SixtyFour c.args.allow c.args.line.now _ _ _
      (rw w.in-SixtyFour.is at c.in-Some.ensures) w.in_ok-new-in-SixtyFour.ensures)
]
