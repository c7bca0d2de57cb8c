-- Which bytes end lines.
use Rattle.std.specs.Prelude.{ℕ, List, map}
use Rattle.std.specs.Simd.Lanes.{mask_l}
use Rattle.memchr.specs.Find.{is_byte}

-- a bit for each byte, 1 where it is LF, that of the first byte the lowest
abbrev pub marks : List ℕ → ℕ
marks bytes = mask_l (map (is_byte 10) bytes)
