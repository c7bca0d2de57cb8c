-- The change that a beat makes to the possible values of bytes, whatever these were before it.
use Rattle.std.specs.Prelude.{ℕ, Bool, true, false, ◌&&◌, ◌==◌, ◌+◌, ◌*◌, ◌<◌, ◌≡◌, List, length, Option, Some, None}
use Rattle.tl_beat.specs.declared.beat.Beat.{Beat}
use Rattle.tl_beat.specs.declared.beat.Beat.TheVariants as beat
use Rattle.tl_beat.specs.declared.beat.Link.{Link}
use Rattle.tl_burst.specs.statement.Messages.{History}
use Rattle.tl_rules.specs.statement.Conformance.{Trace, on_link}
use Rattle.tl_rules.specs.statement.History.{is_grant, request_of}
use Rattle.tl_bytes.specs.code.Tellings.{with_write}
use Rattle.tl_bytes.specs.declared.telling.Telling.{Telling}
use Rattle.tl_bytes.specs.statement.Bytes.{after_beat, after_settling, asks_unread, tells}
use Rattle.tl_bytes.specs.statement.Known.{AreCarried}
use Rattle.tl_memory.specs.code.Elsewhere.{block_borne}
use Rattle.tl_memory.specs.declared.byte_change.ByteChange.{ByteChange}
use Rattle.tl_memory.specs.declared.byte_change.ByteChange.TheVariants as change

-- the beat is of a Grant that answers an AcquirePerm
abbrev pub grants_unread : {w : ℕ} → Beat w → History w → Bool
grants_unread (beat.D x) past = is_grant x.opcode && asks_unread (request_of x.source past)
grants_unread _ past = false

-- the possible values of the byte at an address with a beat that sets no bytes
abbrev pub after_values : {w : ℕ} → ℕ → ℕ → Link × Beat w → Trace w → List Telling → List Telling
after_values n address x t before = after_settling address x t (after_beat n address x.0.0 x.1 t before)

-- the beat completes no access that may have written bytes of the block
abbrev pub KeepsValues : {w : ℕ} → ℕ → ℕ → Link × Beat w → Trace w → Type 0
KeepsValues n block x t = (place : ℕ) → place < 64 → (before : List Telling)
    → after_values n (64 * block + place) x t before ≡ before

-- The beat changes the block's bytes so: it sets them to the bytes of a message (`unread` says that this is a Grant which
-- answers an AcquirePerm), or an access that may have written them is complete, or they stay.
abbrev pub IsByteChange : {w : ℕ} → ByteChange → ℕ → ℕ → Link × Beat w → Trace w → Type 0
IsByteChange change.Same n block x t = (tells block x.1 (on_link x.0.0 t) ≡ false) × KeepsValues n block x t
IsByteChange (change.Told values unread) n block x t = (tells block x.1 (on_link x.0.0 t) ≡ true)
    × AreCarried values x t × (unread ≡ grants_unread x.1 (on_link x.0.0 t)) × KeepsValues n block x t
IsByteChange (change.Written write standing) n block x t = (tells block x.1 (on_link x.0.0 t) ≡ false)
    × ((place : ℕ) → place < 64 → (before : List Telling) → after_values n (64 * block + place) x t before
    ≡ with_write write standing (length t) place before)

-- the beat concerns this block, if there is one, whose bytes it changes so; it changes those of no other block
abbrev pub AreByteChanges : {w : ℕ} → Option (ℕ × ByteChange) → ℕ → Link × Beat w → Trace w → Type 0
AreByteChanges None n x t = (block_borne x.1 (on_link x.0.0 t) ≡ None)
    × ((block : ℕ) → IsByteChange change.Same n block x t)
AreByteChanges (Some (own, changed)) n x t = (block_borne x.1 (on_link x.0.0 t) ≡ Some own)
    × IsByteChange changed n own x t
    × ((block : ℕ) → (block == own) ≡ false → IsByteChange change.Same n block x t)
