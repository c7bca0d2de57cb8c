use Rattle.std.proofs.Common.{sym}
use Rattle.tl_times.proofs.Splitting.{adds_more, on_ok, shows}
use Rattle.tl_times.proofs.pieces.push_line.Goals as goal

pub returns : goal.returns
returns c = rw (c.if-plain.false, ← c.line_shown-number.ensures, shows _ c.line_shown-number.result.now (sym c.if-is_empty.ensures), ← c.saturating_sub.ensures, ← c.split_at.ensures.front, ← c.split_at.ensures.back)
    (on_ok c.push_piece-3.result (λ adds. adds_more _ _ _ _ _ c.in_ok-push_piece.ensures adds) c.push_piece-3.ensures)
