-- The bytes of a commit of a narrow trace.
use Rattle.std.proofs.Common.{◌≡◌, refl}
use Rattle.tl_commit_words.specs.statement.CommitWords.{piece_in, wide_piece_in, widened}
use Rattle.tl_events.specs.declared.commit.Commit.{Commit}
use Rattle.tl_events.specs.declared.commit.Commit.TheVariants as commit

-- the same commit with an address of 64 bits has as many
pub same_size : (x : Commit) → (wide_piece_in (widened x)).size ≡ (piece_in x).size
same_size (commit.Store piece value) = refl
same_size (commit.Load piece value) = refl
same_size (commit.Begin piece) = refl
