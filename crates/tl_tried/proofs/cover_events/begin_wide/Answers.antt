use Rattle.tl_wide.specs.declared.width.WideWidth.TheVariants.{Eight, Four, Sixteen, SixtyFour, ThirtyTwo}
use Rattle.tl_tried.proofs.WideEventCounted.{header-counted}
use Rattle.tl_tried.proofs.cover_events.begin_wide.Goals as goal
use Rattle.tl_tried.proofs.cover_events.begin_wide.Goals.{in-Four+in_ok-of_events-in-Four}
use Rattle.tl_tried.proofs.cover_events.begin_wide.Goals.{in-Eight+in_ok-of_events-in-Eight}
use Rattle.tl_tried.proofs.cover_events.begin_wide.Goals.{in-Sixteen+in_ok-of_events-in-Sixteen}
use Rattle.tl_tried.proofs.cover_events.begin_wide.Goals.{in-ThirtyTwo+in_ok-of_events-in-ThirtyTwo}
use Rattle.tl_tried.proofs.cover_events.begin_wide.Goals.{in-SixtyFour+in_ok-of_events-in-SixtyFour}

pub returns : goal.returns
returns c = elim c.match-header.branch [
  | in-Four+in_ok-of_events-in-Four w ↦
      rw w.following-is (header-counted Four c.args.allow c.args.line.now _ _ _
      (rw w.in-Four.is at c.in-Some.ensures) w.in_ok-of_events-in-Four.ensures)
  | in-Eight+in_ok-of_events-in-Eight w ↦
      rw w.following-is (header-counted Eight c.args.allow c.args.line.now _ _ _
      (rw w.in-Eight.is at c.in-Some.ensures) w.in_ok-of_events-in-Eight.ensures)
  | in-Sixteen+in_ok-of_events-in-Sixteen w ↦
      rw w.following-is (header-counted Sixteen c.args.allow c.args.line.now _ _ _
      (rw w.in-Sixteen.is at c.in-Some.ensures) w.in_ok-of_events-in-Sixteen.ensures)
  | in-ThirtyTwo+in_ok-of_events-in-ThirtyTwo w ↦
      rw w.following-is (header-counted ThirtyTwo c.args.allow c.args.line.now _ _ _
      (rw w.in-ThirtyTwo.is at c.in-Some.ensures) w.in_ok-of_events-in-ThirtyTwo.ensures)
  | in-SixtyFour+in_ok-of_events-in-SixtyFour w ↦
      rw w.following-is (header-counted SixtyFour c.args.allow c.args.line.now _ _ _
      (rw w.in-SixtyFour.is at c.in-Some.ensures) w.in_ok-of_events-in-SixtyFour.ensures)
]
