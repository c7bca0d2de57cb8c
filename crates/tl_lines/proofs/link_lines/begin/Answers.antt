use Rattle.std.proofs.Common.{refl}
use Rattle.tl_lines.proofs.JudgedTraces.{header_known}
use Rattle.tl_lines.proofs.Tracing.{traced-first}
use Rattle.tl_lines.specs.statement.JudgedSo.{said_by}
use Rattle.tl_lines.specs.code.TraceJudging.{KnowsBeats}
use Rattle.tl_lines.specs.statement.JudgedLinks.{faults_by}
use Rattle.tl_lines.specs.statement.LinksHeader.{NamesAllowed}
use Rattle.tl_params.specs.declared.width.Width.TheVariants.{Four, Eight, Sixteen}
use Rattle.tl_lines.proofs.link_lines.begin.Goals as goal
use Rattle.tl_lines.proofs.link_lines.begin.Goals.{in-Four+in_ok-new-in-Four}
use Rattle.tl_lines.proofs.link_lines.begin.Goals.{in-Eight+in_ok-new-in-Eight}
use Rattle.tl_lines.proofs.link_lines.begin.Goals.{in-Sixteen+in_ok-new-in-Sixteen}

pub returns-clause-begins : goal.returns-clause-begins
returns-clause-begins c = elim c.match-header.branch [
  | in-Four+in_ok-new-in-Four w ↦
      rw w.judge-is (header_known (NamesAllowed c.args.allow) (faults_by c.args.together)
      (said_by c.args.together) Four (KnowsBeats c.args.together _) c.args.line.now _ _
      (rw w.in-Four.is at c.in-Some.ensures) w.in_ok-new-in-Four.ensures)
  | in-Eight+in_ok-new-in-Eight w ↦
      rw w.judge-is (header_known (NamesAllowed c.args.allow) (faults_by c.args.together)
      (said_by c.args.together) Eight (KnowsBeats c.args.together _) c.args.line.now _ _
      (rw w.in-Eight.is at c.in-Some.ensures) w.in_ok-new-in-Eight.ensures)
  | in-Sixteen+in_ok-new-in-Sixteen w ↦
      rw w.judge-is (header_known (NamesAllowed c.args.allow) (faults_by c.args.together)
      (said_by c.args.together) Sixteen (KnowsBeats c.args.together _) c.args.line.now _ _
      (rw w.in-Sixteen.is at c.in-Some.ensures) w.in_ok-new-in-Sixteen.ensures)
]

pub returns-clause-traced : goal.returns-clause-traced
returns-clause-traced c = elim c.match-header.branch [
  | in-Four+in_ok-new-in-Four w ↦
      rw w.judge-is (traced-first c.args.together c.args.allow _ c.args.line.now Four _ _ refl
      (rw w.in-Four.is at c.in-Some.ensures)
      w.in_ok-new-in-Four.ensures)
  | in-Eight+in_ok-new-in-Eight w ↦
      rw w.judge-is (traced-first c.args.together c.args.allow _ c.args.line.now Eight _ _ refl
      (rw w.in-Eight.is at c.in-Some.ensures)
      w.in_ok-new-in-Eight.ensures)
  | in-Sixteen+in_ok-new-in-Sixteen w ↦
      rw w.judge-is (traced-first c.args.together c.args.allow _ c.args.line.now Sixteen _ _ refl
      (rw w.in-Sixteen.is at c.in-Some.ensures)
      w.in_ok-new-in-Sixteen.ensures)
]
