-- The front of one line of an input.
use Rattle.std.specs.Prelude.{ℕ, List, [], get_or, take}
use Rattle.tl_lines.specs.statement.Lines.{lines_of}

-- the line after so many lines of an input; empty if there is none
abbrev pub line_after : ℕ → List ℕ → List ℕ
line_after good read = get_or (lines_of read) good []

-- its first 257 bytes: whether it is too long shows in them
abbrev pub front_after : ℕ → List ℕ → List ℕ
front_after good read = take 257 (line_after good read)
