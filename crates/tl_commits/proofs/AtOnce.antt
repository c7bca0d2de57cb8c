-- Pieces, by the test that a judge makes.
use Rattle.std.proofs.Common.{◌≡◌, ◌<◌, ◌^◌, true, false, refl, sym, ◌∙◌}
use Rattle.std.proofs.lemmas.Bool.{and_parts, le-leb, leb-true}
use Rattle.std.specs.Prelude.{nat_le}
use Rattle.tl_rules.specs.statement.Legality.{is_aligned}
use Rattle.tl_events.specs.declared.commit.Piece.{Piece}
use Rattle.tl_events.specs.statement.CommitLine.{IsPiece, is_piece}

-- a piece passes the test of pieces, and one that passes it is a piece
pub no-piece : {X : Type 0} (piece : Piece) → IsPiece piece → is_piece piece.size piece.address ≡ false → X
no-piece piece is fails = absurd
    (let passes : is_piece piece.size piece.address ≡ true = rw (le-leb piece.size 3 is.small, is.aligned) refl in
    let no : true ≡ false = sym passes ∙ fails in cc)

pub valid-is : (piece : Piece) → piece.address < 2 ^ 32 → is_piece piece.size piece.address ≡ true → IsPiece piece
valid-is piece lt passes =
    let both = and_parts (nat_le piece.size 3) (is_aligned piece.address piece.size) passes in
    record { small = leb-true piece.size 3 both.0; in_range = lt; aligned = both.1 }
