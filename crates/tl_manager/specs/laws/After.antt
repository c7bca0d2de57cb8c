-- The requests in service, the histories and the missing ProbeAcks after a beat that is offered.
use Rattle.std.specs.Prelude.{ℕ, Bool, true, false, not, List, [], ◌∷◌, ◌==◌, ◌&&◌, if◌then◌else◌, filter}
use Rattle.tl_beat.specs.declared.beat.Beat.{Beat}
use Rattle.tl_beat.specs.declared.beat.Beat.TheVariants as beat
use Rattle.tl_beat.specs.declared.beat.Link.{Link}
use Rattle.tl_beat.specs.declared.channel.Channel.{Channel}
use Rattle.tl_beat.specs.declared.channel.Channel.TheVariants as channel
use Rattle.tl_burst.specs.declared.message.Message.{Message}
use Rattle.tl_burst.specs.declared.message.Message.TheVariants as message
use Rattle.tl_burst.specs.statement.Burst.{beat_of}
use Rattle.tl_burst.specs.statement.Messages.{History}
use Rattle.tl_rules.specs.statement.Admission.{sent}
use Rattle.tl_rules.specs.statement.Conformance.{Trace, on_link}
use Rattle.tl_rules.specs.statement.History.{ends, block_at, is_probe, is_probe_ack}
use Rattle.tl_manager.specs.statement.Handing.{Handed}
use Rattle.tl_manager.specs.statement.Holders.{is_missing}
use Rattle.tl_manager.specs.statement.Service.{Service, is_ended_by, services}
use Rattle.tl_manager.specs.statement.Offer.{Reception, Refused, Stalled, Sent}

-- the services after a message was handed out; the answer to an access ends its service
abbrev pub without_answered : {w : ℕ} → Link × Message w → List (Service w) → List (Service w)
without_answered x services = filter (λ s. not (is_ended_by (x.0, beat_of x.1 0) s)) services

-- the services after several messages were handed out
abbrev pub without_all : {w : ℕ} → Handed w → List (Service w) → List (Service w)
without_all [] services = services
without_all (x ∷ handed) services = without_all handed (without_answered x services)

-- the services after this answer to a beat x; t is the trace before the beat
abbrev pub services_left : {w : ℕ} → Reception w → Link × Beat w → Trace w → List (Service w)
services_left (Refused rule) x t = services t
services_left Stalled x t = services t
services_left (Sent handed) x t = without_all handed (services (x ∷ t))

-- ---- one link

-- the history of a client's link after messages were handed out
abbrev pub with_sent : {w : ℕ} → ℕ → Handed w → History w → History w
with_sent client [] t = t
with_sent client (x ∷ handed) t = with_sent client handed (if x.0.0 == client then sent x.1 t else t)

-- the history of a client's link after this answer to a beat x
abbrev pub history_after : {w : ℕ} → Reception w → Link × Beat w → ℕ → History w → History w
history_after (Refused rule) x client t = t
history_after Stalled x client t = t
history_after (Sent handed) x client t = with_sent client handed (if x.0.0 == client then x.1 ∷ t else t)

-- the same without the messages that were handed out
abbrev pub taken_after : {w : ℕ} → Reception w → Link × Beat w → ℕ → History w → History w
taken_after (Refused rule) x client t = t
taken_after Stalled x client t = t
taken_after (Sent handed) x client t = if x.0.0 == client then x.1 ∷ t else t

-- clients send on this channel
abbrev pub is_of_clients : Channel → Bool
is_of_clients channel.A = true
is_of_clients channel.B = false
is_of_clients channel.C = true
is_of_clients channel.D = false
is_of_clients channel.E = true

-- ---- ProbeAcks

-- the message is a Probe of the block to the client
abbrev pub is_probe_to : {w : ℕ} → ℕ → ℕ → Link × Message w → Bool
is_probe_to client block (link, message.B m) =
    (link.0 == client) && (is_probe m.opcode && (block_at m.address == block))
is_probe_to client block x = false

-- a ProbeAck of the block by the client is missing after these messages were handed out, if it was before
abbrev pub missing_with : {w : ℕ} → ℕ → ℕ → Handed w → Bool → Bool
missing_with client block [] missing = missing
missing_with client block (x ∷ handed) missing =
    missing_with client block handed (if is_probe_to client block x then true else missing)

-- the beat completes a ProbeAck of the block by the client
abbrev pub is_report_of : {w : ℕ} → ℕ → ℕ → Link × Beat w → Trace w → Bool
is_report_of client block (link, beat.C x) t =
    (link.0 == client) && (ends (beat.C x)
    (on_link client t) && (is_probe_ack x.opcode && (block_at x.address == block)))
is_report_of client block x t = false

-- a ProbeAck of the block by the client is missing after this answer to a beat x
abbrev pub missing_after : {w : ℕ} → Reception w → Link × Beat w → Trace w → ℕ → ℕ → Bool
missing_after (Refused rule) x t client block = is_missing client block t
missing_after Stalled x t client block = is_missing client block t
missing_after (Sent handed) x t client block =
    missing_with client block handed (if is_report_of client block x t then false else is_missing client block t)
