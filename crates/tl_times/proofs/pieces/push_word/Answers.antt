use Rattle.tl_times.proofs.Splitting.{adds_more, on_ok}
use Rattle.tl_times.proofs.pieces.push_word.Goals as goal

pub returns : goal.returns
returns c = rw (c.if-not-named.false, ← c.digits.ensures.0, ← c.digits.ensures.1) (on_ok c.push_piece-3.result (λ adds. adds_more _ _ _ _ _ c.in_ok-push_piece.ensures adds) c.push_piece-3.ensures)
