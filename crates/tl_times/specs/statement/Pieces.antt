-- The lines of a trace that an explanation cites, and the places of these citations.
use Rattle.std.specs.Prelude.{ℕ, Bool, true, false, List, [], ◌∷◌, ◌++◌, ◌-◌, ◌==◌, ◌&&◌, if◌then◌else◌, nat_le}
use Rattle.std.specs.Prelude.{bytes_eq, codes, drop, length, take}
use Rattle.std.specs.List.{flat_map, list_any}
use Rattle.tl_lines.specs.statement.Lines.{before_first}

-- A piece of an explanation, and the digits of the number of the line that it cites at its end. A piece without digits
-- cites none.
pub record Cited : Type 0 where
  pub text : List ℕ
  pub line : List ℕ

abbrev pub plain : List ℕ → Cited
plain text = record { text = text; line = [] }

-- ---- parts of a text

-- the parts of a text that end with this byte; a rest without it is a part too
unfoldable pub parts_at : ℕ → List ℕ → List (List ℕ)
parts_at last [] = []
parts_at last (b ∷ text) = if b == last then (b ∷ []) ∷ parts_at last text else before_first b (parts_at last text)

abbrev pub is_digit : ℕ → Bool
is_digit b = nat_le 48 b && nat_le b 57

-- the digits at the front
unfoldable pub front_digits : List ℕ → List ℕ
front_digits [] = []
front_digits (b ∷ text) = if is_digit b then b ∷ front_digits text else []

-- the bytes after them
unfoldable pub after_digits : List ℕ → List ℕ
after_digits [] = []
after_digits (b ∷ text) = if is_digit b then after_digits text else b ∷ text

-- ---- a line of an explanation

-- A word that follows the word `line` begins with the number of a line.
abbrev pub word_pieces : Bool → List ℕ → List Cited
word_pieces true word =
    record { text = front_digits word; line = front_digits word } ∷ plain (after_digits word) ∷ []
word_pieces false word = plain word ∷ []

-- words, each with the space after it; whether the word before them is `line`
unfoldable pub words_pieces : Bool → List (List ℕ) → List Cited
words_pieces named [] = []
words_pieces named (word ∷ words) = word_pieces named word ++ words_pieces (bytes_eq word (codes "line ")) words

-- the text begins with a colon
abbrev pub is_colon : List ℕ → Bool
is_colon [] = false
is_colon (b ∷ text) = b == 58

-- the number of the line of the trace that this line shows, as `  N: BEAT`
abbrev pub line_shown : List ℕ → List ℕ
line_shown (a ∷ b ∷ text) =
    if (a == 32) && ((b == 32) && is_colon (after_digits text)) then front_digits text else []
line_shown _ = []

-- A line that shows one of the trace cites it at its end, before its LF.
abbrev pub shown_pieces : List ℕ → List ℕ → List Cited
shown_pieces line [] = words_pieces false (parts_at 32 line)
shown_pieces line number =
    record { text = take (length line - 1) line; line = number } ∷ plain (drop (length line - 1) line) ∷ []

-- the pieces of a line, which is `plain` if it cites nothing
abbrev pub line_pieces : Bool → List ℕ → List Cited
line_pieces true line = plain line ∷ []
line_pieces false line = shown_pieces line (line_shown line)

-- ---- an explanation

-- The verdict is `line N F..`: a line is no beat.
abbrev pub names_line_fault : List ℕ → Bool
names_line_fault verdict = list_any (λ b. b == 70) verdict

-- The verdict cites nothing, nor does the explanation of a line that is no beat.
abbrev pub explained_pieces : List (List ℕ) → List Cited
explained_pieces [] = []
explained_pieces (verdict ∷ lines) = plain verdict ∷ flat_map (line_pieces (names_line_fault verdict)) lines

-- the pieces of an explanation
abbrev pub pieces : List ℕ → List Cited
pieces text = explained_pieces (parts_at 10 text)
