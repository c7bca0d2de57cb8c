-- Sets of values of a byte, by the bits of their words.
use Rattle.std.specs.Prelude.{ℕ, ◌/◌, ◌%◌, [], Bool, List, slice_index_or}
use Rattle.tl_burst.specs.statement.Burst.{bit}
use Rattle.tl_memory.specs.declared.byte_set.ByteSet.{ByteSet}

-- the value is one of the set
abbrev pub has : ByteSet → ℕ → Bool
has set v = bit (slice_index_or set.words (v / 64) 0) (v % 64)

abbrev pub nothing : ByteSet
nothing = record { words = [] }

-- it is one of set i of these
abbrev pub has_at : List ByteSet → ℕ → ℕ → Bool
has_at sets i v = has (slice_index_or sets i nothing) v
