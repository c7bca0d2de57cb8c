use Rattle.std.proofs.Common.{sym}
use Rattle.tl_times.proofs.Splitting.{adds_word, cut_first, empty, no_words}
use Rattle.tl_times.proofs.pieces.push_words.Goals as goal

pub loop-rest-preserved : goal.loop-rest-preserved
loop-rest-preserved c = rw (c.eq-named.ensures, c.as_slice.ensures) (adds_word _ _ _ _ _ _ _ _ c.loop-rest.invariant.0 c.loop-rest.invariant.1
    (cut_first _ _ _ _ (sym c.loop-rest-test.ensures) c.first_part.ensures.part) c.in_ok-push_word.ensures)

pub returns : goal.returns
returns c = no_words _ _ _ _ _ c.loop-rest.invariant.0 c.loop-rest.invariant.1 (empty _ c.loop-rest-test.ensures)
