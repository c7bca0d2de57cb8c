use Rattle.tl_params.specs.declared.width.Width.TheVariants.{Four, Eight, Sixteen}
use Rattle.tl_tried.proofs.Covered.{header_covered}
use Rattle.tl_tried.proofs.cover_lines.begin.Goals as goal
use Rattle.tl_tried.proofs.cover_lines.begin.Goals.{in-Four+in_ok-follow-in-Four}
use Rattle.tl_tried.proofs.cover_lines.begin.Goals.{in-Eight+in_ok-follow-in-Eight}
use Rattle.tl_tried.proofs.cover_lines.begin.Goals.{in-Sixteen+in_ok-follow-in-Sixteen}

pub returns : goal.returns
returns c = elim c.match-header.branch [
  | in-Four+in_ok-follow-in-Four w ↦
      rw w.following-is (header_covered c.args.allow c.args.line.now Four _ _ _
      (rw w.in-Four.is at c.in-Some.ensures) w.in_ok-follow-in-Four.ensures)
  | in-Eight+in_ok-follow-in-Eight w ↦
      rw w.following-is (header_covered c.args.allow c.args.line.now Eight _ _ _
      (rw w.in-Eight.is at c.in-Some.ensures) w.in_ok-follow-in-Eight.ensures)
  | in-Sixteen+in_ok-follow-in-Sixteen w ↦
      rw w.following-is (header_covered c.args.allow c.args.line.now Sixteen _ _ _
      (rw w.in-Sixteen.is at c.in-Some.ensures) w.in_ok-follow-in-Sixteen.ensures)
]
