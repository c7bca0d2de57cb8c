-- The bytes that a manager keeps.
use Rattle.std.specs.Prelude.{ℕ, List, ◌≡◌, ◌<◌, length, slice_index_or}
use Rattle.tl_rules.specs.statement.Effect.{Memory, IsBlock}

-- these are the blocks of the memory from address 0 on, of 64 bytes each
abbrev pub AreBlocks : List (List ℕ) → Memory → Type 0
AreBlocks blocks memory = (block : ℕ) (past : List ℕ) → block < length blocks →
    (length (slice_index_or blocks block past) ≡ 64) × IsBlock memory block (slice_index_or blocks block past)
