use Rattle.tl_params.specs.declared.width.Width.TheVariants.{Four, Eight, Sixteen}
use Rattle.tl_report.proofs.Handled.{begun_events}
use Rattle.tl_report.proofs.search_lines.begin_events.Goals as goal
use Rattle.tl_report.proofs.search_lines.begin_events.Goals.{in-Four+in_ok-events-in-Four}
use Rattle.tl_report.proofs.search_lines.begin_events.Goals.{in-Eight+in_ok-events-in-Eight}
use Rattle.tl_report.proofs.search_lines.begin_events.Goals.{in-Sixteen+in_ok-events-in-Sixteen}

pub returns : goal.returns
returns c = elim c.match-header.branch [
  | in-Four+in_ok-events-in-Four w ↦
      rw w.lines-is (
        begun_events c.args.line.now Four _ _ c.args.aim _ (rw w.in-Four.is at c.in-Some.ensures) w.in_ok-events-in-Four.ensures,
        w.in_ok-events-in-Four.ensures.begun.aim_is,
      )
  | in-Eight+in_ok-events-in-Eight w ↦
      rw w.lines-is (
        begun_events c.args.line.now Eight _ _ c.args.aim _ (rw w.in-Eight.is at c.in-Some.ensures) w.in_ok-events-in-Eight.ensures,
        w.in_ok-events-in-Eight.ensures.begun.aim_is,
      )
  | in-Sixteen+in_ok-events-in-Sixteen w ↦
      rw w.lines-is (
        begun_events c.args.line.now Sixteen _ _ c.args.aim _ (rw w.in-Sixteen.is at c.in-Some.ensures) w.in_ok-events-in-Sixteen.ensures,
        w.in_ok-events-in-Sixteen.ensures.begun.aim_is,
      )
]
