-- The pieces of an explanation as the code has them.
use Rattle.std.specs.Prelude.{◌≡◌, ◌++◌, List, [], All, map}
use Rattle.tl_times.specs.declared.piece.Piece.{Piece}
use Rattle.tl_times.specs.statement.Pieces.{Cited}

-- this piece
abbrev pub cited : Piece → Cited
cited piece = record { text = piece.text.now; line = piece.line.now }

-- these pieces
abbrev pub are_cited : List Piece → List Cited
are_cited all = map cited all

-- no time is known yet
abbrev pub AreUntimed : List Piece → Type 0
AreUntimed all = All (λ (piece : Piece). piece.time.items ≡ []) all

-- these pieces are appended, without times
abbrev pub AddsPieces : List Piece → List Piece → List Cited → Type 0
AddsPieces old new more = (are_cited new ≡ are_cited old ++ more) × (AreUntimed old → AreUntimed new)
