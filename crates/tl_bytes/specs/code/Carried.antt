-- The bytes of a message, by their places, with one more beat.
use Rattle.std.specs.Prelude.{ℕ, ◌==◌, ◌&&◌, ◌/◌, ◌%◌, if◌then◌else◌, List, length, nat_lt, Option}
use Rattle.std.specs.Prelude.{slice_get}
use Rattle.tl_bytes.specs.declared.known_bytes.KnownBytes.{KnownBytes}
use Rattle.tl_bytes.specs.statement.KnownBytes.{known_at}

-- the byte at a place once the lanes of a beat of w bytes are there, before which so many bytes came
abbrev pub with_lanes : ℕ → ℕ → List ℕ → KnownBytes → ℕ → Option ℕ
with_lanes w beats lanes bytes place =
    if (place / w == beats) && nat_lt (place % w) (length lanes) then slice_get lanes (place % w)
    else known_at bytes place
