-- The possible values of the bytes of memory and of the copies, by the beats of all links and the commits of their
-- cores.
use Rattle.std.specs.Prelude.{ℕ, Bool, true, false, not, [], ◌∷◌, ◌==◌, ◌&&◌, ◌-◌, ◌%◌, if◌then◌else◌, List, length}
use Rattle.std.specs.Prelude.{Option, Some, None, is_some}
use Rattle.tl_beat.specs.declared.beat.Beat.{Beat}
use Rattle.tl_beat.specs.declared.beat.Beat.TheVariants as beat
use Rattle.tl_beat.specs.declared.beat.Link.{Link}
use Rattle.tl_beat.specs.declared.opcode.OpC.{OpC}
use Rattle.tl_beat.specs.declared.opcode.OpC.TheVariants as c
use Rattle.tl_burst.specs.statement.Burst.{reaches}
use Rattle.tl_burst.specs.statement.Messages.{History}
use Rattle.tl_params.specs.declared.perm.Perm.TheVariants as perm
use Rattle.tl_rules.specs.statement.OpenMessages.{open_probe}
use Rattle.tl_rules.specs.declared.past.Probe.{Probe}
use Rattle.tl_rules.specs.statement.Conformance.{Trace, is_probe_block, on_link, same_perm}
use Rattle.tl_rules.specs.statement.Effect.{byte_of}
use Rattle.tl_rules.specs.statement.History.{block_at, reported}
use Rattle.tl_bytes.specs.declared.telling.Telling.{Telling}
use Rattle.tl_bytes.specs.statement.Bytes.{after_beat, after_settling, carried_byte, tells}
use Rattle.tl_bytes.specs.statement.Early.{telling_beats}
use Rattle.tl_memory.specs.statement.ByteChanges.{grants_unread}
use Rattle.tl_events.specs.declared.commit.Commit.{Commit}
use Rattle.tl_events.specs.declared.commit.Commit.TheVariants as commit
use Rattle.tl_events.specs.declared.commit.Event.{Event}
use Rattle.tl_events.specs.declared.commit.Event.TheVariants as event
use Rattle.tl_events.specs.declared.commit.Piece.{Piece}
use Rattle.tl_commits.specs.statement.Completeness.{Completeness, first_value}
use Rattle.tl_commits.specs.statement.Copies.{brought, holds_trunk, is_known, link_beats}
use Rattle.tl_commits.specs.statement.Events.{Events, beats_of, is_loading}

-- ---- memory

-- the byte that a message says with this beat
abbrev pub told_by : {w : ℕ} → ℕ → Beat w → History w → ℕ → List Telling
told_by address x past moment = record {
  value = carried_byte (telling_beats x past) (address % 64);
  moment =
      moment;
} ∷ []

-- the possible values of a byte before the trace
abbrev pub first_values : Bool → List Telling
first_values zero = record { value = first_value zero; moment = 0 } ∷ []

-- The values that memory may have at an address if no copy is given back: as `may_be` of `tl_bytes`, but a Grant that
-- answers an AcquirePerm changes nothing there, and memory may have been zero before the trace.
unfoldable pub memory_may : {w : ℕ} → Bool → ℕ → ℕ → Trace w → List Telling
memory_may zero n address [] = first_values zero
memory_may zero n address (x ∷ t) =
    if tells (block_at address) x.1 (on_link x.0.0 t) && not (grants_unread x.1 (on_link x.0.0 t))
    then told_by address x.1 (on_link x.0.0 t) (length t)
    else after_settling address x t (after_beat n address x.0.0 x.1 t (memory_may zero n address t))

-- ---- commits

-- The possible values of a byte, the newest first, and whether it was stored since a message last set it.
pub record Seen : Type 0 where
  pub values : List Telling
  pub stored : Bool

-- a byte before the trace
abbrev pub unseen : Bool → Seen
unseen zero = record { values = first_values zero; stored = false }

-- the byte at an address that this piece of a value has
abbrev pub byte_in : Piece → ℕ → ℕ → ℕ
byte_in piece value address = byte_of value (address - piece.address)

-- the byte has this value at this moment
abbrev pub told_now : Piece → ℕ → ℕ → ℕ → List Telling
told_now piece value address moment = record { value = Some (byte_in piece value address); moment = moment } ∷ []

-- A load of this piece says the byte at an address of its link's copy, as it is now: it didn't begin earlier, no Grant
-- under way has brought the byte, and the bytes of the copy are known.
abbrev pub says_byte : {w : ℕ} → Completeness → ℕ → Piece → ℕ → Events w → Bool
says_byte complete link piece address e =
    not (is_loading link piece e)
    && (not (is_some (brought address (link_beats link e)))
    && is_known complete link (block_at address) (link_beats link e))

-- a byte with one more commit
abbrev pub after_commit : {w : ℕ} → Completeness → ℕ → ℕ → Commit → Events w → Seen → Seen
after_commit complete address link (commit.Store piece value) e before =
    if reaches piece.address piece.size address
    then record {
      values = told_now piece value address (length (beats_of e));
      stored = true;
    }
    else before
after_commit complete address link (commit.Load piece value) e before =
    if reaches piece.address piece.size address && says_byte complete link piece address e
    then record {
      values = told_now piece value address (length (beats_of e));
      stored = before.stored;
    }
    else before
after_commit complete address link (commit.Begin piece) e before = before

-- ---- beats

-- there is a Probe, and it asks for no data
abbrev pub asks_nothing : Option Probe → Bool
asks_nothing None = false
asks_nothing (Some probe) = not (is_probe_block probe.opcode)

-- the opcode is ProbeAck
abbrev pub is_plain_ack : OpC → Bool
is_plain_ack c.ProbeAck = true
is_plain_ack _ = false

-- The beat answers a ProbePerm of the block and takes Trunk away: the bytes that were stored to the copy are lost, as
-- the manager wants it.
abbrev pub loses_stores : {w : ℕ} → ℕ → Beat w → History w → Bool
loses_stores block (beat.C x) past =
    (is_plain_ack x.opcode && (block_at x.address == block))
    && (asks_nothing (open_probe block past)
    && (holds_trunk block past && not (same_perm (reported x.param) perm.Trunk)))
loses_stores block _ past = false

-- A byte with one more beat. A message sets it, or stores are lost and it has the value of memory, or the answer to an
-- access
-- changes it as `may_be` of `tl_bytes` does.
abbrev pub after_seen_beat : {w : ℕ} → Bool → ℕ → ℕ → Link × Beat w → Events w → Seen → Seen
after_seen_beat zero n address x e before =
    if tells (block_at address) x.1 (link_beats x.0.0 e)
    then record { values = told_by address x.1 (link_beats x.0.0 e) (length (beats_of e)); stored = false }
    else if before.stored && loses_stores (block_at address) x.1 (link_beats x.0.0 e)
    then record { values = memory_may zero n address (beats_of e); stored = false }
    else record {
      values =
          after_settling address x (beats_of e)
          (after_beat n address x.0.0 x.1 (beats_of e) before.values);
      stored = before.stored;
    }

-- ---- all events

-- a byte with one more event
abbrev pub after_event : {w : ℕ} → Completeness → ℕ → ℕ → Link → Event w → Events w → Seen → Seen
after_event complete n address link (event.Beat x) e before = after_seen_beat complete.zero n address (link, x) e before
after_event complete n address link (event.Commit x) e before = after_commit complete address link.0 x e before

-- the byte at an address after beats and commits of n links
unfoldable pub seen : {w : ℕ} → Completeness → ℕ → ℕ → Events w → Seen
seen complete n address [] = unseen complete.zero
seen complete n address (x ∷ e) = after_event complete n address x.0 x.1 e (seen complete n address e)

-- the possible values of the byte
abbrev pub values_seen : {w : ℕ} → Completeness → ℕ → ℕ → Events w → List Telling
values_seen complete n address e = (seen complete n address e).values
