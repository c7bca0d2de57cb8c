-- A commit's line written from left to right, as the code goes; only private clauses cite this.
use Rattle.std.specs.Prelude.{ℕ, List, ◌∷◌, ◌++◌}
use Rattle.tl_beat.specs.declared.beat.Link.{Link}
use Rattle.tl_beat.specs.statement.Digits.{digits}
use Rattle.tl_events.specs.declared.commit.Piece.{Piece}
use Rattle.tl_events.specs.statement.CommitLine.{value_digits}

-- the fields up to the address
abbrev pub piece_text : Link → ℕ → Piece → List ℕ
piece_text link letter piece =
    digits 2 link.0 ++ 32 ∷ letter ∷ 32 ∷ (digits 1 piece.size ++ 32 ∷ digits 8 piece.address)

-- the digits of a value, after a space
abbrev pub value_text : ℕ → ℕ → List ℕ
value_text size value = 32 ∷ digits (value_digits size) value
