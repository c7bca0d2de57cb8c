use Rattle.std.proofs.Common.{◌≡◌, ◌++◌, length}
use Rattle.std.specs.Prelude.{false}
use Rattle.tl_times.specs.code.Splitting.{AreUntimed, are_cited}
use Rattle.tl_times.specs.statement.Pieces.{parts_at, words_pieces}
use Rattle.tl_times.proofs.pieces.push_words.Given as goal

abbrev pub invariant-loop-rest : goal.invariant-loop-rest
invariant-loop-rest l =
    (are_cited l.pieces.items ++ words_pieces l.named (parts_at 32 l.rest)
    ≡ are_cited l.initial.pieces.items ++ words_pieces false (parts_at 32 l.line))
    × (AreUntimed l.initial.pieces.items → AreUntimed l.pieces.items)

abbrev pub decreases-loop-rest : goal.decreases-loop-rest
decreases-loop-rest l = length l.rest
