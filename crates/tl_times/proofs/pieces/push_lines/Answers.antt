use Rattle.std.proofs.Common.{sym}
use Rattle.tl_times.proofs.Splitting.{adds_line, cut_first, empty, no_lines}
use Rattle.tl_times.specs.statement.Pieces.{line_pieces}
use Rattle.tl_times.proofs.pieces.push_lines.Goals as goal

pub loop-rest-preserved : goal.loop-rest-preserved
loop-rest-preserved c = adds_line (line_pieces c.args.plain) _ _ _ _ _ _ _ c.loop-rest.invariant.0 c.loop-rest.invariant.1
    (cut_first _ _ _ _ (sym c.loop-rest-test.ensures) c.first_part.ensures.part) c.in_ok-push_line.ensures

pub returns : goal.returns
returns c = no_lines (line_pieces c.args.plain) _ _ _ _ c.loop-rest.invariant.0 c.loop-rest.invariant.1 (empty _ c.loop-rest-test.ensures)
