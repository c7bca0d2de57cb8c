-- The possible values of a block's bytes, as they are kept.
use Rattle.std.specs.Prelude.{ℕ, Bool, false, true, [], ◌∷◌, ◌+◌, ◌*◌, ◌<◌, ◌≡◌, ◌||◌, ◌&&◌, not, if◌then◌else◌, List}
use Rattle.std.specs.Prelude.{Some}
use Rattle.tl_bytes.specs.code.Tellings.{is_written, value_at, with_write}
use Rattle.tl_bytes.specs.declared.known_bytes.KnownBytes.{KnownBytes}
use Rattle.tl_bytes.specs.declared.telling.Telling.{Telling}
use Rattle.tl_bytes.specs.declared.write.Write.{Write}
use Rattle.tl_bytes.specs.statement.Known.{tellings_at}
use Rattle.tl_bytes.specs.statement.KnownBytes.{known_at}
use Rattle.tl_memory.specs.declared.byte_change.ByteChange.{ByteChange}
use Rattle.tl_memory.specs.declared.byte_change.ByteChange.TheVariants as change
use Rattle.tl_commits.specs.code.Tellings.{is_in, with_set}
use Rattle.tl_commits.specs.declared.block_values.BlockValues.{BlockValues}
use Rattle.tl_commits.specs.statement.Completeness.{Completeness}
use Rattle.tl_commits.specs.statement.Copies.{is_known, link_beats}
use Rattle.tl_commits.specs.statement.Events.{Events, beats_of, is_loading}
use Rattle.tl_burst.specs.statement.Burst.{reaches}
use Rattle.tl_rules.specs.statement.History.{block_at}
use Rattle.tl_events.specs.declared.commit.Piece.{Piece}
use Rattle.tl_commits.specs.statement.Seen.{byte_in, first_values, memory_may, seen}

-- the values after a beat that makes this change, if it sets none
abbrev pub changed : ByteChange → ℕ → ℕ → List Telling → List Telling
changed (change.Written write standing) moment place before = with_write write standing moment place before
changed _ moment place before = before

-- the values of memory after a message with these bytes, which may be a Grant that answers an AcquirePerm
abbrev pub memory_told : KnownBytes → Bool → ℕ → ℕ → List Telling → List Telling
memory_told values unread moment place before =
    if unread then before else record { value = known_at values place; moment = moment } ∷ []

-- the values of a block before the trace
abbrev pub AreFirst : Bool → BlockValues → Type 0
AreFirst zero v = (place : ℕ) → place < 64 → (tellings_at place v.seen.items ≡ first_values zero)
    × (is_in v.stored place ≡ false) × (tellings_at place v.memory.items ≡ first_values zero)

-- these are the possible values of the block's bytes after the events, and the places that were stored to
pub record KnowsValues {w : ℕ} (v : BlockValues) (complete : Completeness) (n block : ℕ) (e : Events w) : Type 0 where
  pub seen_is : (place : ℕ) → place < 64
      → tellings_at place v.seen.items ≡ (seen complete n (64 * block + place) e).values
  pub stored_is : (place : ℕ) → place < 64 → is_in v.stored place ≡ (seen complete n (64 * block + place) e).stored
  pub memory_is : (place : ℕ) → place < 64
      → tellings_at place v.memory.items ≡ memory_may complete.zero n (64 * block + place) (beats_of e)

-- they are the same values
pub record AreSame (old new : BlockValues) : Type 0 where
  pub seen_is : new.seen.items ≡ old.seen.items
  pub stored_is : new.stored ≡ old.stored
  pub memory_is : new.memory.items ≡ old.memory.items

-- the values after a store with this write
pub record IsStored (old new : BlockValues) (write : Write) (moment : ℕ) : Type 0 where
  pub seen_is : (place : ℕ) → place < 64
      → tellings_at place new.seen.items
      ≡ with_set (is_written write place) write moment place (tellings_at place old.seen.items)
  pub stored_is : (place : ℕ) → place < 64 → is_in new.stored place ≡ (is_in old.stored place || is_written write place)
  pub memory_is : new.memory.items ≡ old.memory.items

-- the values after a load that says the bytes of these places
pub record IsLoaded (old new : BlockValues) (places : List Bool) (write : Write) (moment : ℕ) : Type 0 where
  pub seen_is : (place : ℕ) → place < 64
      → tellings_at place new.seen.items
      ≡ with_set (is_in places place) write moment place (tellings_at place old.seen.items)
  pub stored_is : new.stored ≡ old.stored
  pub memory_is : new.memory.items ≡ old.memory.items

-- this is the write of these bytes of a piece to its block
abbrev pub IsPieceWrite : Write → Piece → ℕ → Type 0
IsPieceWrite write piece value = (place : ℕ) → place < 64
    → (is_written write place ≡ reaches piece.address piece.size (64 * block_at piece.address + place))
    × (is_written write place ≡ true
    → value_at write place ≡ Some (byte_in piece value (64 * block_at piece.address + place)))

-- a load of the piece says bytes of its link's copy: it didn't begin earlier, and they are known
abbrev pub says_piece : {w : ℕ} → Completeness → ℕ → Piece → Events w → Bool
says_piece complete link piece e =
    not (is_loading link piece e) && is_known complete link (block_at piece.address) (link_beats link e)
