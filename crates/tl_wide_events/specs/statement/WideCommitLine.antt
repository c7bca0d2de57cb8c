-- The one line of text that spells a commit with an address of 64 bits, and the fault of a line that spells none.
use Rattle.std.specs.Prelude.{◌≡◌, ◌<◌, ◌≤◌, ℕ, ◌*◌, ◌^◌, Bool, true, not, ◌&&◌, ◌||◌, ◌==◌, List, [], ◌∷◌, ◌++◌}
use Rattle.std.specs.Prelude.{length, Option, Some, None, nat_lt}
use Rattle.std.specs.Io.BufRead.{ends_with_byte}
use Rattle.tl_beat.specs.declared.beat.Link.{Link}
use Rattle.tl_beat.specs.declared.fault.LineFault.{LineFault}
use Rattle.tl_beat.specs.declared.fault.LineFault.TheVariants.{F1, F2, F3}
use Rattle.tl_beat.specs.statement.Digits.{digits, is_digits, value_of}
use Rattle.tl_beat.specs.statement.First.{first_if}
use Rattle.tl_beat.specs.statement.Line.{are_of_form, field, is_any, pieces, spaced, without_last}
use Rattle.tl_rules.specs.statement.Legality.{is_aligned}
use Rattle.tl_events.specs.statement.CommitLine.{Letter, I, is_piece, letter_named, value_digits}
use Rattle.tl_wide_events.specs.declared.commit.WideCommit.{WideCommit}
use Rattle.tl_wide_events.specs.declared.commit.WideCommit.TheVariants as wide
use Rattle.tl_wide_events.specs.declared.commit.WidePiece.{WidePiece}

-- ---- the spelling

-- the fields of a commit's line: those of a commit with an address of 32 bits, with more digits of address
abbrev pub wide_commit_fields : Link → WideCommit → List (List ℕ)
wide_commit_fields link (wide.Store piece value) =
    digits 2 link.0 ∷ (83 ∷ []) ∷ digits 1 piece.size ∷ digits 16 piece.address
    ∷ digits (value_digits piece.size) value ∷ []
wide_commit_fields link (wide.Load piece value) =
    digits 2 link.0 ∷ (76 ∷ []) ∷ digits 1 piece.size ∷ digits 16 piece.address
    ∷ digits (value_digits piece.size) value ∷ []
wide_commit_fields link (wide.Begin piece) =
    digits 2 link.0 ∷ (73 ∷ []) ∷ digits 1 piece.size ∷ digits 16 piece.address ∷ []

-- the line of a commit: its fields, and a line feed
abbrev pub wide_commit_line : Link → WideCommit → List ℕ
wide_commit_line link x = spaced (wide_commit_fields link x) ++ 10 ∷ []

-- a piece of at most 8 bytes, at a multiple of their number, within 64 bits
pub record IsWidePiece (piece : WidePiece) : Type 0 where
  pub small : piece.size ≤ 3
  pub in_range : piece.address < 2 ^ 64
  pub aligned : is_aligned piece.address piece.size ≡ true

-- a commit of such a piece, whose value has its number of bytes
abbrev pub IsWideCommit : WideCommit → Type 0
IsWideCommit (wide.Store piece value) = IsWidePiece piece × (value < 2 ^ (4 * value_digits piece.size))
IsWideCommit (wide.Load piece value) = IsWidePiece piece × (value < 2 ^ (4 * value_digits piece.size))
IsWideCommit (wide.Begin piece) = IsWidePiece piece

-- the line is that of the commit on the link
pub record SpellsWideCommit (line : List ℕ) (link : Link) (x : WideCommit) : Type 0 where
  pub is_line : line ≡ wide_commit_line link x
  pub link_in_range : link.0 < 2 ^ 8
  pub is_commit : IsWideCommit x

-- ---- the fault of a line

-- the fields that each line of a commit begins with: link, letter, size, address
abbrev pub wide_piece_forms : List (List ℕ → Bool)
wide_piece_forms = is_digits 2 ∷ is_any ∷ is_digits 1 ∷ is_digits 16 ∷ []

-- the forms of the fields of a line with this letter, of a piece of this size
abbrev pub wide_commit_forms : Letter → ℕ → List (List ℕ → Bool)
wide_commit_forms I size = wide_piece_forms
wide_commit_forms _ size = wide_piece_forms ++ is_digits (value_digits size) ∷ []

-- the first fault of a line with this letter: a wrong number of fields, then a field that isn't of its form, a size
-- over 3, or an address that isn't aligned
abbrev pub wide_letter_fault : Option Letter → List (List ℕ) → Option LineFault
wide_letter_fault None fields = Some F2
wide_letter_fault (Some letter) fields =
    first_if (not (length fields == length (wide_commit_forms letter 0))) F1
    (first_if (not (are_of_form (wide_commit_forms letter (value_of (field fields 2))) fields
    && is_piece (value_of (field fields 2)) (value_of (field fields 3)))) F3 None)

-- the first fault of a line with these fields
abbrev pub wide_commit_fields_fault : List (List ℕ) → Option LineFault
wide_commit_fields_fault fields =
    first_if (nat_lt (length fields) 2) F1 (wide_letter_fault (letter_named (field fields 1)) fields)

-- the first fault of a line; None if it spells a commit
abbrev pub wide_commit_fault : List ℕ → Option LineFault
wide_commit_fault line = first_if (nat_lt 256 (length line) || not (ends_with_byte 10 line)) F1
    (wide_commit_fields_fault (pieces (without_last line)))
