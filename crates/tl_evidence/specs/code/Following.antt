-- What is kept of the values of a block's bytes while the events of a trace are followed.
use Rattle.std.specs.Prelude.{ℕ, ◌∷◌, ◌≡◌, ◌<◌, ◌+◌, ◌*◌, ◌%◌, ◌≤◌, ◌^◌, Bool, List, length, slice_index_or, Option, Some, None, false}
use Rattle.tl_beat.specs.declared.beat.Link.{Link}
use Rattle.tl_bytes.specs.declared.telling.Telling.{Telling}
use Rattle.tl_bytes.specs.statement.Known.{tellings_at}
use Rattle.tl_commits.specs.statement.Completeness.{Completeness}
use Rattle.tl_commits.specs.statement.Copied.{copy_values}
use Rattle.tl_commits.specs.statement.Events.{Events, beats_of}
use Rattle.tl_commits.specs.statement.Knows.{KnowsCommits}
use Rattle.tl_commits.specs.statement.Seen.{memory_may}
use Rattle.tl_events.specs.declared.commit.Event.{Event}
use Rattle.tl_events.specs.declared.commit.Piece.{Piece}
use Rattle.tl_events.specs.statement.CommitLine.{IsPiece}
use Rattle.tl_memory.specs.code.ByteSet.{has}
use Rattle.tl_memory.specs.declared.byte_set.ByteSet.{ByteSet}
use Rattle.tl_params.specs.declared.level.Level.{Level}
use Rattle.tl_params.specs.declared.liberties.Liberties.{Liberties}
use Rattle.tl_evidence.specs.declared.copy_record.CopyRecord.{CopyRecord}
use Rattle.tl_evidence.specs.declared.set_lines.SetLines.{SetLines}
use Rattle.tl_evidence.specs.statement.SetLines.{set_at}

-- 256 values of each of 64 bytes
abbrev pub COUNTS : ℕ
COUNTS = 16384

-- what is kept of a value of the byte at a place
abbrev pub kept_in : List (Option ℕ) → ℕ → ℕ → Option ℕ
kept_in counts place v = slice_index_or counts (256 * place + v) None

abbrev pub set_in : SetLines → ℕ → ℕ → Option ℕ
set_in s place v = kept_in s.counts.items place v

-- the value is one of a set, if there is one
abbrev pub is_in_set : Option ByteSet → ℕ → Bool
is_in_set None v = false
is_in_set (Some set) v = has set v

-- a line can spell the piece, and its block has room for its bytes, which are as many from this place on
pub record IsRoom (piece : Piece) (first count : ℕ) : Type 0 where
  pub valid : IsPiece piece
  pub first_is : first ≡ piece.address % 64
  pub count_is : count ≡ 2 ^ piece.size
  pub few : count ≤ 8
  pub inside : first + count ≤ 64

-- the values of the byte at a place are these, and what is kept of each is the event that set it
pub record KnowsSet {w : ℕ} (s : SetLines) (values : ℕ → Events w → List Telling) (e : Events w) : Type 0 where
  pub long : length s.counts.items ≡ COUNTS
  pub now_is : (place : ℕ) → place < 64 → tellings_at place s.values.items ≡ values place e
  pub set_is : (place v : ℕ) → place < 64 → v < 256 → set_in s place v ≡ set_at (values place) v e

-- of the bytes of a block, the values of a link's copy and those of memory
pub record KnowsCopy {w : ℕ} (r : CopyRecord w) (may : Liberties) (levels : List Level) (complete : Completeness)
    (e : Events w) : Type 0 where
  pub judge_is : KnowsCommits r.judge levels complete may e
  pub there : r.link.0 < length levels
  pub copy_is : KnowsSet r.copy (λ place. copy_values complete (length levels) r.link.0 (64 * r.block + place)) e
  pub memory_is : KnowsSet r.memory
      (λ place e. memory_may complete.zero (length levels) (64 * r.block + place) (beats_of e)) e

-- one more event, in the line of this number
abbrev pub RecordsCopy : {w : ℕ} → CopyRecord w → CopyRecord w → ℕ → Link → Event w → Type 0
RecordsCopy {w} old new number link x =
    (may : Liberties) (levels : List Level) (complete : Completeness) (e : Events w) → number ≡ length e + 2
    → KnowsCopy old may levels complete e → KnowsCopy new may levels complete ((link, x) ∷ e)
