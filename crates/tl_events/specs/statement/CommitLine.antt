-- The one line of text that spells a commit, and the fault of a line that spells none.
use Rattle.std.specs.Prelude.{◌≡◌, ◌<◌, ◌≤◌, ℕ, ◌*◌, ◌^◌, Bool, true, not, ◌&&◌, ◌||◌, ◌==◌, List, [], ◌∷◌, ◌++◌}
use Rattle.std.specs.Prelude.{length, Option, Some, None, nat_le, nat_lt, if◌then◌else◌}
use Rattle.std.specs.Io.BufRead.{ends_with_byte}
use Rattle.tl_beat.specs.declared.beat.Link.{Link}
use Rattle.tl_beat.specs.declared.fault.LineFault.{LineFault}
use Rattle.tl_beat.specs.declared.fault.LineFault.TheVariants.{F1, F2, F3}
use Rattle.tl_beat.specs.statement.Digits.{digits, is_digits, value_of}
use Rattle.tl_beat.specs.statement.First.{first_if}
use Rattle.tl_beat.specs.statement.Line.{are_of_form, field, is_any, pieces, spaced, without_last}
use Rattle.tl_rules.specs.statement.Legality.{is_aligned}
use Rattle.tl_events.specs.declared.commit.Commit.{Commit}
use Rattle.tl_events.specs.declared.commit.Commit.TheVariants as commit
use Rattle.tl_events.specs.declared.commit.Piece.{Piece}

-- ---- the spelling

-- the number of digits of the bytes of a store or a load
abbrev pub value_digits : ℕ → ℕ
value_digits size = 2 * 2 ^ size

-- the fields of a commit's line: S is a store, L a load, I the beginning of a load; the byte of the highest address is
-- first
abbrev pub commit_fields : Link → Commit → List (List ℕ)
commit_fields link (commit.Store piece value) =
    digits 2 link.0 ∷ (83 ∷ []) ∷ digits 1 piece.size ∷ digits 8 piece.address
    ∷ digits (value_digits piece.size) value ∷ []
commit_fields link (commit.Load piece value) =
    digits 2 link.0 ∷ (76 ∷ []) ∷ digits 1 piece.size ∷ digits 8 piece.address
    ∷ digits (value_digits piece.size) value ∷ []
commit_fields link (commit.Begin piece) = digits 2 link.0 ∷ (73 ∷ []) ∷ digits 1 piece.size ∷ digits 8
    piece.address ∷ []

-- the line of a commit: its fields, and a line feed
abbrev pub commit_line : Link → Commit → List ℕ
commit_line link x = spaced (commit_fields link x) ++ 10 ∷ []

-- a piece of at most 8 bytes, at a multiple of their number, within 32 bits
pub record IsPiece (piece : Piece) : Type 0 where
  pub small : piece.size ≤ 3
  pub in_range : piece.address < 2 ^ 32
  pub aligned : is_aligned piece.address piece.size ≡ true

-- a commit of such a piece, whose value has its number of bytes
abbrev pub IsCommit : Commit → Type 0
IsCommit (commit.Store piece value) = IsPiece piece × (value < 2 ^ (4 * value_digits piece.size))
IsCommit (commit.Load piece value) = IsPiece piece × (value < 2 ^ (4 * value_digits piece.size))
IsCommit (commit.Begin piece) = IsPiece piece

-- the line is that of the commit on the link
pub record SpellsCommit (line : List ℕ) (link : Link) (x : Commit) : Type 0 where
  pub is_line : line ≡ commit_line link x
  pub link_in_range : link.0 < 2 ^ 8
  pub is_commit : IsCommit x

-- ---- the fault of a line

-- the letter of a commit
pub data Letter : Type 0 where
  S : Letter
  L : Letter
  I : Letter

-- the letter that this field is
abbrev pub letter_named : List ℕ → Option Letter
letter_named [] = None
letter_named (c ∷ []) = if c == 83 then Some S else if c == 76 then Some L else if c == 73 then Some I else None
letter_named (c ∷ d ∷ cs) = None

-- the fields that each line of a commit begins with: link, letter, size, address
abbrev pub piece_forms : List (List ℕ → Bool)
piece_forms = is_digits 2 ∷ is_any ∷ is_digits 1 ∷ is_digits 8 ∷ []

-- the forms of the fields of a line with this letter, of a piece of this size
abbrev pub commit_forms : Letter → ℕ → List (List ℕ → Bool)
commit_forms I size = piece_forms
commit_forms _ size = piece_forms ++ is_digits (value_digits size) ∷ []

-- the size is at most 3, and the address a multiple of the number of bytes
abbrev pub is_piece : ℕ → ℕ → Bool
is_piece size address = nat_le size 3 && is_aligned address size

-- the first fault of a line with this letter: a wrong number of fields, then a field that isn't of its form, a size
-- over 3, or an address that isn't aligned
abbrev pub letter_fault : Option Letter → List (List ℕ) → Option LineFault
letter_fault None fields = Some F2
letter_fault (Some letter) fields =
    first_if (not (length fields == length (commit_forms letter 0))) F1
    (first_if (not (are_of_form (commit_forms letter (value_of (field fields 2))) fields
    && is_piece (value_of (field fields 2)) (value_of (field fields 3)))) F3 None)

-- the first fault of a line with these fields
abbrev pub commit_fields_fault : List (List ℕ) → Option LineFault
commit_fields_fault fields =
    first_if (nat_lt (length fields) 2) F1 (letter_fault (letter_named (field fields 1)) fields)

-- the first fault of a line; None if it spells a commit
abbrev pub commit_fault : List ℕ → Option LineFault
commit_fault line = first_if (nat_lt 256 (length line) || not (ends_with_byte 10 line)) F1
    (commit_fields_fault (pieces (without_last line)))
