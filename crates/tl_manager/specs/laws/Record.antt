-- The permission that a client is recorded with for a block, after a beat that is offered.
use Rattle.std.specs.Prelude.{ℕ, Bool, false, [], ◌∷◌, ◌==◌, ◌&&◌, ◌||◌, if◌then◌else◌, Option, Some, None, unwrap_or}
use Rattle.tl_beat.specs.declared.beat.Beat.{Beat}
use Rattle.tl_beat.specs.declared.beat.Beat.TheVariants as beat
use Rattle.tl_beat.specs.declared.beat.Link.{Link}
use Rattle.tl_burst.specs.declared.message.Message.{Message}
use Rattle.tl_burst.specs.declared.message.Message.TheVariants as message
use Rattle.tl_params.specs.declared.perm.Perm.{Perm}
use Rattle.tl_rules.specs.statement.Conformance.{Trace, on_link}
use Rattle.tl_rules.specs.statement.History.{ends, block_at, is_probe_ack, is_release, is_grant, asks_for, request_of}
use Rattle.tl_rules.specs.statement.History.{reported, capped}
use Rattle.tl_manager.specs.statement.Handing.{Handed}
use Rattle.tl_manager.specs.statement.Holders.{recorded}
use Rattle.tl_manager.specs.statement.Offer.{Reception, Refused, Stalled, Sent}

-- the permission that a beat sets by completing a ProbeAck or Release of the block by the client
abbrev pub reported_by : {w : ℕ} → Link × Beat w → Trace w → ℕ → ℕ → Option Perm
reported_by (link, beat.C x) t client block =
    if (link.0 == client) && (ends (beat.C x)
    (on_link client t) && ((is_probe_ack x.opcode || is_release x.opcode) && (block_at x.address == block)))
    then Some (reported x.param) else None
reported_by _ t client block = None

-- the permission that a message gives as a Grant of the block to the client
abbrev pub granted_by : {w : ℕ} → Link × Message w → Trace w → ℕ → ℕ → Option Perm
granted_by (link, message.D m) t client block =
    if (link.0 == client) && (is_grant m.opcode && asks_for block (request_of m.source (on_link client t)))
    then Some (capped m.param) else None
granted_by _ t client block = None

-- the permission after these messages were handed out; before them it was `held`
abbrev pub granted_by_all : {w : ℕ} → Handed w → Trace w → ℕ → ℕ → Perm → Perm
granted_by_all [] t client block held = held
granted_by_all (x ∷ handed) t client block held =
    granted_by_all handed t client block (unwrap_or (granted_by x t client block) held)

-- the permission recorded after this answer to a beat x; t is the trace before the beat
abbrev pub recorded_after : {w : ℕ} → Reception w → Link × Beat w → Trace w → ℕ → ℕ → Perm
recorded_after (Refused rule) x t client block = recorded client block t
recorded_after Stalled x t client block = recorded client block t
recorded_after (Sent handed) x t client block =
    granted_by_all handed (x ∷ t) client block (unwrap_or (reported_by x t client block) (recorded client block t))

-- the beat is on channel A or C, and its address is in the block
abbrev pub is_of_block : {w : ℕ} → ℕ → Beat w → Bool
is_of_block block (beat.A x) = block_at x.address == block
is_of_block block (beat.C x) = block_at x.address == block
is_of_block block _ = false
