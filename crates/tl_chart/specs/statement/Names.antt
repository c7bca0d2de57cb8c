-- The names of blocks, sources and sinks in a chart.
use Rattle.std.specs.Prelude.{ℕ, ◌+◌, ◌*◌, ◌/◌, List, if◌then◌else◌, max, nat_lt, slice_index_or}
use Rattle.tl_beat.specs.statement.Digits.{digits}
use Rattle.tl_chart.specs.declared.names.Names.{Names}
use Rattle.tl_chart.specs.declared.names.Names.TheVariants.{Own, Written}

-- the number of a block in three digits, or in seven if it needs more
abbrev pub block_digits : ℕ → List ℕ
block_digits k = if nat_lt k 4096 then digits 3 k else digits 7 k

-- the same, or in fifteen if it needs more
abbrev pub long_block_digits : ℕ → List ℕ
long_block_digits k = if nat_lt k 268435456 then block_digits k else digits 15 k

-- a block
unfoldable pub block_name : Names → ℕ → List ℕ
block_name Own k = block_digits k
block_name (Written table) k = long_block_digits (slice_index_or table.blocks.items k 0)

-- a source of a link
unfoldable pub source_name : Names → ℕ → ℕ → List ℕ
source_name Own link source = digits 2 source
source_name (Written table) link source = digits 4 (slice_index_or table.sources.items (256 * link + source) 0)

-- a sink
unfoldable pub sink_name : Names → ℕ → List ℕ
sink_name Own sink = digits 2 sink
sink_name (Written table) sink = digits 4 (slice_index_or table.sinks.items sink 0)

-- the number of beats of a message as the trace has it; a table's trace has fewer if each becomes several
abbrev pub beats_named : Names → ℕ → ℕ
beats_named Own beats = beats
beats_named (Written table) beats = max (beats / max table.parts 1) 1
