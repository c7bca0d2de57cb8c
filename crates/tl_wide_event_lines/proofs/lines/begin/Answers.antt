use Rattle.tl_wide.specs.declared.width.WideWidth.TheVariants.{Eight, Four, Sixteen, SixtyFour, ThirtyTwo}
use Rattle.tl_wide_event_lines.proofs.JudgedLines.{header-known}
use Rattle.tl_wide_event_lines.proofs.lines.begin.Goals as goal
use Rattle.tl_wide_event_lines.proofs.lines.begin.Goals.{in-Eight+in_ok-new-in-Eight, in-Four+in_ok-new-in-Four}
use Rattle.tl_wide_event_lines.proofs.lines.begin.Goals.{in-Sixteen+in_ok-new-in-Sixteen}
use Rattle.tl_wide_event_lines.proofs.lines.begin.Goals.{in-SixtyFour+in_ok-new-in-SixtyFour}
use Rattle.tl_wide_event_lines.proofs.lines.begin.Goals.{in-ThirtyTwo+in_ok-new-in-ThirtyTwo}

pub returns : goal.returns
returns c = elim c.match-header.branch [
  | in-Four+in_ok-new-in-Four w ↦
      rw w.links-is (header-known Four c.args.together c.args.allow c.args.line.now _ _ _
      (rw w.in-Four.is at c.in-Some.ensures) w.in_ok-new-in-Four.ensures.0 w.in_ok-new-in-Four.ensures.1)
  | in-Eight+in_ok-new-in-Eight w ↦
      rw w.links-is (header-known Eight c.args.together c.args.allow c.args.line.now _ _ _
      (rw w.in-Eight.is at c.in-Some.ensures) w.in_ok-new-in-Eight.ensures.0 w.in_ok-new-in-Eight.ensures.1)
  | in-Sixteen+in_ok-new-in-Sixteen w ↦
      rw w.links-is (header-known Sixteen c.args.together c.args.allow c.args.line.now _ _ _
      (rw w.in-Sixteen.is at c.in-Some.ensures) w.in_ok-new-in-Sixteen.ensures.0 w.in_ok-new-in-Sixteen.ensures.1)
  | in-ThirtyTwo+in_ok-new-in-ThirtyTwo w ↦
      rw w.links-is (header-known ThirtyTwo c.args.together c.args.allow c.args.line.now _ _ _
      (rw w.in-ThirtyTwo.is at c.in-Some.ensures) w.in_ok-new-in-ThirtyTwo.ensures.0
      w.in_ok-new-in-ThirtyTwo.ensures.1)
  | in-SixtyFour+in_ok-new-in-SixtyFour w ↦
      rw w.links-is (header-known SixtyFour c.args.together c.args.allow c.args.line.now _ _ _
      (rw w.in-SixtyFour.is at c.in-Some.ensures) w.in_ok-new-in-SixtyFour.ensures.0
      w.in_ok-new-in-SixtyFour.ensures.1)
]
