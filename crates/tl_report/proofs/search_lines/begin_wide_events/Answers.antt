use Rattle.tl_wide.specs.declared.width.WideWidth.TheVariants.{Four, Eight, Sixteen, ThirtyTwo, SixtyFour}
use Rattle.tl_report.proofs.Handled.{begun_wide_events}
use Rattle.tl_report.proofs.search_lines.begin_wide_events.Goals as goal
use Rattle.tl_report.proofs.search_lines.begin_wide_events.Goals.{in-Four+in_ok-wide_events-in-Four}
use Rattle.tl_report.proofs.search_lines.begin_wide_events.Goals.{in-Eight+in_ok-wide_events-in-Eight}
use Rattle.tl_report.proofs.search_lines.begin_wide_events.Goals.{in-Sixteen+in_ok-wide_events-in-Sixteen}
use Rattle.tl_report.proofs.search_lines.begin_wide_events.Goals.{in-ThirtyTwo+in_ok-wide_events-in-ThirtyTwo}
use Rattle.tl_report.proofs.search_lines.begin_wide_events.Goals.{in-SixtyFour+in_ok-wide_events-in-SixtyFour}

pub returns : goal.returns
returns c = elim c.match-header.branch [
  | in-Four+in_ok-wide_events-in-Four w ↦
      rw w.lines-is (
        begun_wide_events c.args.line.now Four _ _ c.args.aim _ (rw w.in-Four.is at c.in-Some.ensures) w.in_ok-wide_events-in-Four.ensures,
        w.in_ok-wide_events-in-Four.ensures.begun.aim_is,
      )
  | in-Eight+in_ok-wide_events-in-Eight w ↦
      rw w.lines-is (
        begun_wide_events c.args.line.now Eight _ _ c.args.aim _ (rw w.in-Eight.is at c.in-Some.ensures) w.in_ok-wide_events-in-Eight.ensures,
        w.in_ok-wide_events-in-Eight.ensures.begun.aim_is,
      )
  | in-Sixteen+in_ok-wide_events-in-Sixteen w ↦
      rw w.lines-is (
        begun_wide_events c.args.line.now Sixteen _ _ c.args.aim _ (rw w.in-Sixteen.is at c.in-Some.ensures) w.in_ok-wide_events-in-Sixteen.ensures,
        w.in_ok-wide_events-in-Sixteen.ensures.begun.aim_is,
      )
  | in-ThirtyTwo+in_ok-wide_events-in-ThirtyTwo w ↦
      rw w.lines-is (
        begun_wide_events c.args.line.now ThirtyTwo _ _ c.args.aim _ (rw w.in-ThirtyTwo.is at c.in-Some.ensures) w.in_ok-wide_events-in-ThirtyTwo.ensures,
        w.in_ok-wide_events-in-ThirtyTwo.ensures.begun.aim_is,
      )
  | in-SixtyFour+in_ok-wide_events-in-SixtyFour w ↦
      rw w.lines-is (
        begun_wide_events c.args.line.now SixtyFour _ _ c.args.aim _ (rw w.in-SixtyFour.is at c.in-Some.ensures) w.in_ok-wide_events-in-SixtyFour.ensures,
        w.in_ok-wide_events-in-SixtyFour.ensures.begun.aim_is,
      )
]
