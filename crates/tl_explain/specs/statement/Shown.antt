-- A line as it is shown, with carets under the bytes at fault.
use Rattle.std.specs.Prelude.{◌≡◌, ◌++◌, ◌&&◌, ℕ, Bool, List, [], ◌∷◌, codes, drop, if◌then◌else◌, length, nat_le}
use Rattle.std.specs.Prelude.{replicate, take}
use Rattle.std.specs.Io.BufRead.{ends_with_byte}
use Rattle.std.specs.List.{flat_map}
use Rattle.tl_beat.specs.statement.Digits.{digits}
use Rattle.tl_beat.specs.statement.Line.{without_last}

-- ---- bytes

-- the byte is a character of ASCII that is printed: from the space to `~`
abbrev pub is_printable : ℕ → Bool
is_printable b = nat_le 32 b && nat_le b 126

-- a byte as it is shown: its character, or `\x` and two digits if it isn't printable
abbrev pub byte_text : ℕ → List ℕ
byte_text b = if is_printable b then b ∷ [] else codes "\\x" ++ digits 2 b

-- bytes as they are shown
abbrev pub bytes_text : List ℕ → List ℕ
bytes_text bytes = flat_map byte_text bytes

-- a mark under each character of a byte
abbrev pub under : ℕ → ℕ → List ℕ
under mark b = replicate (length (byte_text b)) mark

-- a mark under each character of these bytes
abbrev pub marks : ℕ → List ℕ → List ℕ
marks mark bytes = flat_map (under mark) bytes

-- ---- a line

-- the line without an LF at its end
abbrev pub without_lf : List ℕ → List ℕ
without_lf line = if ends_with_byte 10 line then without_last line else line

-- the bytes of a line that are shown: the first 256 of those before its LF
abbrev pub shown_of : List ℕ → List ℕ
shown_of line = take 256 (without_lf line)

-- a caret under each character of the bytes at fault; one, if there are none
abbrev pub carets : List ℕ → List ℕ
carets [] = codes "^"
carets (b ∷ bytes) = marks 94 (b ∷ bytes)

-- the line as it is shown, and below it carets under the bytes at fault, from the place `from` to before the place `to`
unfoldable pub line_text : List ℕ → ℕ → ℕ → List ℕ
line_text line from to =
    codes "  " ++ bytes_text (shown_of line) ++ codes "\n"
    ++ codes "  " ++ marks 32 (take from (shown_of line)) ++ carets (drop from (take to (shown_of line))) ++ codes "\n"

-- ---- a text that shows a line

-- some words were appended
abbrev pub Grows : List ℕ → List ℕ → Type 0
Grows old new = (words : List ℕ) × (new ≡ old ++ words)

-- the line was appended, with carets under some of its bytes, and some words after it
abbrev pub Shows : List ℕ → List ℕ → List ℕ → Type 0
Shows line old new = (from to : ℕ) × (words : List ℕ) × (new ≡ old ++ (line_text line from to ++ words))
