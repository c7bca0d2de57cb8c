use Rattle.tl_params.specs.declared.width.Width.TheVariants.{Four, Eight, Sixteen}
use Rattle.tl_lines.proofs.JudgedTraces.{header_known}
use Rattle.tl_lines.specs.code.Watching.{KnowsBeats, is_together}
use Rattle.tl_lines.specs.statement.JudgedSo.{faults_by, said_by}
use Rattle.tl_lines.specs.statement.Trace.{SpellsHeader}
use Rattle.tl_lines.proofs.monitor_lines.begin.Goals as goal
use Rattle.tl_lines.proofs.monitor_lines.begin.Goals.{in-Four+in_ok-new-in-Four}
use Rattle.tl_lines.proofs.monitor_lines.begin.Goals.{in-Eight+in_ok-new-in-Eight}
use Rattle.tl_lines.proofs.monitor_lines.begin.Goals.{in-Sixteen+in_ok-new-in-Sixteen}

pub returns : goal.returns
returns g c = elim c.match-header.branch [
  | in-Four+in_ok-new-in-Four w ↦
      rw w.monitor_lines-is (header_known SpellsHeader (faults_by (is_together g.row.TOGETHER))
      (said_by (is_together g.row.TOGETHER)) Four (KnowsBeats (is_together g.row.TOGETHER) _) c.args.line.now _ _
      (rw w.in-Four.is at c.in-Some.ensures.spelled) w.in_ok-new-in-Four.ensures)
  | in-Eight+in_ok-new-in-Eight w ↦
      rw w.monitor_lines-is (header_known SpellsHeader (faults_by (is_together g.row.TOGETHER))
      (said_by (is_together g.row.TOGETHER)) Eight (KnowsBeats (is_together g.row.TOGETHER) _) c.args.line.now _ _
      (rw w.in-Eight.is at c.in-Some.ensures.spelled) w.in_ok-new-in-Eight.ensures)
  | in-Sixteen+in_ok-new-in-Sixteen w ↦
      rw w.monitor_lines-is (header_known SpellsHeader (faults_by (is_together g.row.TOGETHER))
      (said_by (is_together g.row.TOGETHER)) Sixteen (KnowsBeats (is_together g.row.TOGETHER) _) c.args.line.now _ _
      (rw w.in-Sixteen.is at c.in-Some.ensures.spelled) w.in_ok-new-in-Sixteen.ensures)
]
