-- The manager's reaction to a complete message.
use Rattle.std.specs.Prelude.{ℕ, List, [], ◌∷◌, ◌==◌, ◌%◌, if◌then◌else◌, slice_index, Option, Some, None}
use Rattle.tl_beat.specs.declared.beat.Beat.{Beat}
use Rattle.tl_beat.specs.declared.beat.Beat.TheVariants as beat
use Rattle.tl_beat.specs.declared.beat.BeatC.{BeatC}
use Rattle.tl_beat.specs.declared.beat.Link.{Link}
use Rattle.tl_beat.specs.statement.Opcode.{c_carries_data}
use Rattle.tl_burst.specs.statement.Messages.{channel_of, unfinished}
use Rattle.tl_params.specs.declared.config.Config.{Config}
use Rattle.tl_params.specs.declared.param.Cap.{Cap}
use Rattle.tl_rules.specs.statement.Admission.{payload_of}
use Rattle.tl_rules.specs.statement.Conformance.{Trace, on_link}
use Rattle.tl_rules.specs.statement.Effect.{Memory}
use Rattle.tl_rules.specs.statement.History.{ends, block_at, is_probe_ack, is_release}
use Rattle.tl_manager.specs.statement.Service.{Service, service_of, services, service_of_block}
use Rattle.tl_manager.specs.statement.Holders.{cap_probed, probed, is_settled}
use Rattle.tl_manager.specs.statement.Handing.{probes, release_ack, Reaction, nothing, performed}
use Rattle.tl_manager.specs.statement.End.{End}

-- Probes for these clients; if there is none, this reaction.
abbrev pub probing_or : {w : ℕ} → Reaction w → ℕ → Cap → List ℕ → Memory → Reaction w
probing_or reaction block cap [] memory = reaction
probing_or reaction block cap (client ∷ clients) memory =
    record { handed = probes block cap (client ∷ clients); memory = memory }

-- The reaction to a request whose service begins. It probes the clients whose permission is above the cap; if there is
-- none, it is performed at once.
abbrev pub begun_with : {w : ℕ} → Config → Option Cap → Service w → Trace w → Memory → Reaction w
begun_with config None s t memory = performed config s t memory
begun_with config (Some cap) s t memory =
    probing_or (performed config s t memory) (block_at s.request.address) cap (probed config s cap t) memory

-- the same for the request that a beat completes, if there is one
abbrev pub begun_if_any : {w : ℕ} → Config → Option (Service w) → Trace w → Memory → Reaction w
begun_if_any config None t memory = nothing memory
begun_if_any config (Some s) t memory = begun_with config (cap_probed s.request.opcode s.request.param) s t memory

-- the request of a service, if there is one, is performed and answered
abbrev pub performed_if_any : {w : ℕ} → Config → Option (Service w) → Trace w → Memory → Reaction w
performed_if_any config None t memory = nothing memory
performed_if_any config (Some s) t memory = performed config s t memory

-- when no ProbeAck of a block is missing any more, the request for the block is performed and answered
abbrev pub finish : {w : ℕ} → Config → ℕ → Trace w → Memory → Reaction w
finish config block t memory =
    if is_settled config block t then performed_if_any config (service_of_block block (services t)) t memory else
    nothing memory

-- the memory with these bytes in this block
abbrev pub with_block : ℕ → List ℕ → Memory → Memory
with_block block bytes memory address = if block_at address == block then slice_index bytes (address % 64) else memory
    address

-- the memory after the message of channel C with these beats: data replace the block
abbrev pub written : {w : ℕ} → BeatC w → List (Beat w) → Memory → Memory
written x beats memory = if c_carries_data x.opcode then with_block (block_at x.address) (payload_of beats) memory else
    memory

-- the reaction to a message of channel C: a Release is answered at once, a ProbeAck may be the last that was missing
abbrev pub completed_c : {w : ℕ} → Config → Link → BeatC w → Trace w → Memory → Reaction w
completed_c config link x t memory =
    if is_release x.opcode then record { handed = (link, release_ack x.source) ∷ []; memory = memory } else
    if is_probe_ack x.opcode then finish config (block_at x.address) t memory else nothing memory

-- The reaction to a beat that completes a message. `burst` has the earlier beats of the message, `t` is the trace
-- before the beat.
abbrev pub completed : {w : ℕ} → Config → Link → Beat w → List (Beat w) → Trace w → Memory → Reaction w
completed config link (beat.A x) burst t memory = begun_if_any config (service_of link (beat.A x ∷ burst) (services t))
    ((link, beat.A x) ∷ t) memory
completed config link (beat.C x) burst t memory =
    completed_c config link x ((link, beat.C x) ∷ t) (written x (beat.C x ∷ burst) memory)
completed config link x burst t memory = nothing memory

-- the reaction to a beat that the manager takes; there is none unless the beat completes a message
unfoldable pub reaction : {w : ℕ} → Config → Link → Beat w → End w → Reaction w
reaction config link x e =
    if ends x (on_link link.0 e.trace)
    then completed config link x (unfinished (channel_of x) (on_link link.0 e.trace)) e.trace e.memory
    else nothing e.memory
