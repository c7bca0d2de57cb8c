-- Bytes of a block by their places, some of them known.
use Rattle.std.specs.Prelude.{ℕ, ◌&&◌, if◌then◌else◌, nat_lt, Option, Some, None, slice_index_or}
use Rattle.tl_burst.specs.statement.Burst.{bit}
use Rattle.tl_bytes.specs.declared.known_bytes.KnownBytes.{KnownBytes}

-- the byte at a place, if it is known
unfoldable pub known_at : KnownBytes → ℕ → Option ℕ
known_at b place = if nat_lt place 64 && bit b.known place then Some (slice_index_or b.bytes place 0) else None
