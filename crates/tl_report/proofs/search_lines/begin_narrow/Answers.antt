use Rattle.tl_params.specs.declared.width.Width.TheVariants.{Four, Eight, Sixteen}
use Rattle.tl_report.proofs.Handled.{begun_narrow}
use Rattle.tl_report.proofs.search_lines.begin_narrow.Goals as goal
use Rattle.tl_report.proofs.search_lines.begin_narrow.Goals.{in-Four+in_ok-narrow-in-Four}
use Rattle.tl_report.proofs.search_lines.begin_narrow.Goals.{in-Eight+in_ok-narrow-in-Eight}
use Rattle.tl_report.proofs.search_lines.begin_narrow.Goals.{in-Sixteen+in_ok-narrow-in-Sixteen}

pub returns : goal.returns
returns c = elim c.match-header.branch [
  | in-Four+in_ok-narrow-in-Four w ↦
      rw w.lines-is (
        begun_narrow c.args.line.now Four _ _ c.args.aim _ (rw w.in-Four.is at c.in-Some.ensures) w.in_ok-narrow-in-Four.ensures,
        w.in_ok-narrow-in-Four.ensures.begun.aim_is,
      )
  | in-Eight+in_ok-narrow-in-Eight w ↦
      rw w.lines-is (
        begun_narrow c.args.line.now Eight _ _ c.args.aim _ (rw w.in-Eight.is at c.in-Some.ensures) w.in_ok-narrow-in-Eight.ensures,
        w.in_ok-narrow-in-Eight.ensures.begun.aim_is,
      )
  | in-Sixteen+in_ok-narrow-in-Sixteen w ↦
      rw w.lines-is (
        begun_narrow c.args.line.now Sixteen _ _ c.args.aim _ (rw w.in-Sixteen.is at c.in-Some.ensures) w.in_ok-narrow-in-Sixteen.ensures,
        w.in_ok-narrow-in-Sixteen.ensures.begun.aim_is,
      )
]
