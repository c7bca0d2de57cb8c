-- The line of a beat that is cited.
use Rattle.std.specs.Prelude.{ℕ, List, min, take}
use Rattle.tl_explain.specs.declared.told.Spelling.{Spelling}

-- the bytes that are kept of a line, at most 64
abbrev pub spelled : Spelling → List ℕ
spelled s = take (min s.len 64) s.bytes
