use Rattle.std.proofs.Common.{◌≡◌, ◌++◌, drop}
use Rattle.std.specs.List.{flat_map}
use Rattle.tl_times.specs.code.Timing.{said}
use Rattle.tl_times.proofs.times.append_pieces.Given as goal

abbrev pub invariant-loop-piece : goal.invariant-loop-piece
invariant-loop-piece l =
    l.out.items ++ flat_map said (drop l.piece-index l.pieces) ≡ l.initial.out.items ++ flat_map said l.pieces
