-- What perform's parts do to the lists of bytes.
use Rattle.std.specs.Prelude.{ℕ, ◌-◌, ◌*◌, ◌/◌, ◌%◌, List, ◌++◌, take, replicate}

-- the place in its block of payload byte 0 of a message at this address
abbrev pub base_of : ℕ → ℕ → ℕ
base_of w address = address % 64 / w * w

-- 64 bytes moved up by n places
abbrev pub moved_up : ℕ → List ℕ → List ℕ
moved_up n bytes = replicate n 0 ++ take (64 - n) bytes
