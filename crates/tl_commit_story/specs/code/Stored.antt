-- The stores that are kept.
use Rattle.std.specs.Prelude.{ℕ, List, Option, None, option_map, slice_index_or}
use Rattle.tl_commit_story.specs.declared.store_line.StoreLine.{StoreLine}
use Rattle.tl_commit_story.specs.statement.Cached.{Stored}

-- a store that is kept
abbrev pub stored_of : StoreLine → Stored
stored_of s = record { number = s.number; link = s.link; piece = s.piece; value = s.value }

-- the last store to the byte at a place
abbrev pub last_in : List (Option StoreLine) → ℕ → Option Stored
last_in last place = option_map stored_of (slice_index_or last place None)
