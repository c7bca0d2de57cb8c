use Rattle.std.proofs.Common.{◌≡◌, ◌++◌, length}
use Rattle.std.specs.List.{flat_map}
use Rattle.tl_times.specs.code.Splitting.{AreUntimed, are_cited}
use Rattle.tl_times.specs.statement.Pieces.{line_pieces, parts_at}
use Rattle.tl_times.proofs.pieces.push_lines.Given as goal

abbrev pub invariant-loop-rest : goal.invariant-loop-rest
invariant-loop-rest l =
    (are_cited l.pieces.items ++ flat_map (line_pieces l.plain) (parts_at 10 l.rest)
    ≡ are_cited l.initial.pieces.items ++ flat_map (line_pieces l.plain) (parts_at 10 l.lines))
    × (AreUntimed l.initial.pieces.items → AreUntimed l.pieces.items)

abbrev pub decreases-loop-rest : goal.decreases-loop-rest
decreases-loop-rest l = length l.rest
