use Rattle.tl_params.specs.declared.width.Width.TheVariants.{Four, Eight, Sixteen}
use Rattle.tl_tried.proofs.EventCounted.{header-counted}
use Rattle.tl_tried.proofs.cover_events.begin_narrow.Goals as goal
use Rattle.tl_tried.proofs.cover_events.begin_narrow.Goals.{in-Four+in_ok-new-in-Four}
use Rattle.tl_tried.proofs.cover_events.begin_narrow.Goals.{in-Eight+in_ok-new-in-Eight}
use Rattle.tl_tried.proofs.cover_events.begin_narrow.Goals.{in-Sixteen+in_ok-new-in-Sixteen}

pub returns : goal.returns
returns c = elim c.match-header.branch [
  | in-Four+in_ok-new-in-Four w ↦
      rw w.following-is (header-counted Four c.args.allow c.args.line.now _ _ _
      (rw w.in-Four.is at c.in-Some.ensures) w.in_ok-new-in-Four.ensures)
  | in-Eight+in_ok-new-in-Eight w ↦
      rw w.following-is (header-counted Eight c.args.allow c.args.line.now _ _ _
      (rw w.in-Eight.is at c.in-Some.ensures) w.in_ok-new-in-Eight.ensures)
  | in-Sixteen+in_ok-new-in-Sixteen w ↦
      rw w.following-is (header-counted Sixteen c.args.allow c.args.line.now _ _ _
      (rw w.in-Sixteen.is at c.in-Some.ensures) w.in_ok-new-in-Sixteen.ensures)
]
