-- The messages that a manager hands out.
use Rattle.std.specs.Prelude.{ℕ, Bool, true, false, not, List, [], ◌∷◌, ◌++◌, ◌==◌, ◌&&◌, ◌-◌, ◌*◌, ◌^◌, if◌then◌else◌}
use Rattle.std.specs.Prelude.{map, replicate}
use Rattle.std.proofs.Common.{lit≤}
use Rattle.tl_beat.specs.declared.beat.BeatB.{BeatB}
use Rattle.tl_beat.specs.declared.beat.Link.{Link}
use Rattle.tl_beat.specs.declared.opcode.OpA.{OpA}
use Rattle.tl_beat.specs.declared.opcode.OpA.TheVariants as a
use Rattle.tl_beat.specs.declared.opcode.OpB.TheVariants as b
use Rattle.tl_beat.specs.declared.opcode.OpD.{OpD}
use Rattle.tl_beat.specs.declared.opcode.OpD.TheVariants as d
use Rattle.tl_burst.specs.declared.message.Message.{Message}
use Rattle.tl_burst.specs.declared.message.Message.TheVariants as message
use Rattle.tl_burst.specs.declared.message.MessageA.{MessageA}
use Rattle.tl_burst.specs.declared.message.MessageB.{MessageB}
use Rattle.tl_burst.specs.statement.Burst.{b_beat_of, burst_of}
use Rattle.tl_rules.specs.declared.answer.Answer.{Answer}
use Rattle.tl_rules.specs.declared.answer.Answer.TheVariants as answer
use Rattle.tl_params.specs.declared.config.Config.{Config}
use Rattle.tl_params.specs.declared.param.Cap.{Cap}
use Rattle.tl_params.specs.declared.param.Cap.TheVariants as cap
use Rattle.tl_params.specs.declared.param.Grow.TheVariants as grow
use Rattle.tl_params.specs.declared.perm.Perm.{Perm}
use Rattle.tl_params.specs.declared.perm.Perm.TheVariants as perm
use Rattle.tl_params.specs.declared.profile.Profile.{Profile}
use Rattle.tl_params.specs.declared.profile.Profile.TheVariants as profile
use Rattle.tl_rules.specs.statement.History.{block_at, is_acquire}
use Rattle.tl_rules.specs.statement.Conformance.{Trace, same_perm}
use Rattle.tl_rules.specs.statement.Effect.{Memory, bytes_from, effect, answer_of}
use Rattle.tl_params.specs.statement.Param.{grow_code, cap_code}
use Rattle.tl_manager.specs.statement.Service.{Service}
use Rattle.tl_manager.specs.statement.Holders.{recorded, is_unheld}

-- messages, in order, each with the link on which it is handed out
abbrev pub Handed : ℕ → Type 0
Handed w = List (Link × Message w)

-- the trace after these messages were handed out, each with all of its beats at once
unfoldable pub with_handed : {w : ℕ} → Handed w → Trace w → Trace w
with_handed [] t = t
with_handed (x ∷ handed) t = with_handed handed (map (λ beat. (x.0, beat)) (burst_of x.1) ++ t)

-- the payload of a message without data, all zero
abbrev pub no_payload : List ℕ
no_payload = replicate 64 0

-- ---- Probes

-- the ProbeBlock of a block with this cap
abbrev pub probe_message : {w : ℕ} → ℕ → Cap → MessageB w
probe_message {w} block cap = record {
  opcode = b.ProbeBlock;
  param = cap_code cap;
  size = 6;
  source = 0;
  address = 64 * block;
  payload = no_payload;
  mask = 2 ^ w - 1;
  corrupt = 0;
  small = lit≤ tt;
}

-- the same as a message
abbrev pub probe_of_block : {w : ℕ} → ℕ → Cap → Message w
probe_of_block block cap = message.B (probe_message block cap)

-- its one beat
abbrev pub probe_beat : {w : ℕ} → ℕ → Cap → BeatB w
probe_beat block cap = b_beat_of (probe_message block cap) 0

-- a ProbeBlock of the block with this cap, for each of these clients
abbrev pub probes : {w : ℕ} → ℕ → Cap → List ℕ → Handed w
probes block cap clients = map (λ client. (record { 0 = client }, probe_of_block block cap)) clients

-- ---- answers

-- a response with this payload, with no sink, and with the request's source and size
abbrev pub answer_with : {w : ℕ} → OpD → List ℕ → MessageA w → Message w
answer_with opcode payload m = message.D (record {
  opcode = opcode;
  param = 0;
  size = m.size;
  source = m.source;
  sink = 0;
  denied = false;
  payload = payload;
  corrupt = 0;
  small = m.small;
})

-- the answer to an access
abbrev pub access_answer : {w : ℕ} → MessageA w → Answer → Message w
access_answer m answer.Ack = answer_with d.AccessAck no_payload m
access_answer m answer.Hint = answer_with d.HintAck no_payload m
access_answer m (answer.Data payload) = answer_with d.AccessAckData payload m

-- the answer to a Release with this source
abbrev pub release_ack : {w : ℕ} → ℕ → Message w
release_ack source = message.D (record {
  opcode = d.ReleaseAck;
  param = 0;
  size = 6;
  source = source;
  sink = 0;
  denied = false;
  payload = no_payload;
  corrupt = 0;
  small = lit≤ tt;
})

-- ---- Grants

-- The cap of the Grant that answers an Acquire: toB for NtoB, otherwise toT. Under the second profile an AcquireBlock
-- NtoB gets toT if `unheld`: no client is recorded with a copy.
abbrev pub cap_granted : Profile → OpA → ℕ → Bool → Cap
cap_granted profile.Two a.AcquireBlock param unheld = if (param == grow_code grow.NtoB) && not unheld then cap.ToB else
    cap.ToT
cap_granted _ opcode param unheld = if param == grow_code grow.NtoB then cap.ToB else cap.ToT

-- The Grant carries the block: it answers an AcquireBlock, and not a BtoT from a client that is recorded with Branch.
abbrev pub is_granted_data : OpA → ℕ → Perm → Bool
is_granted_data a.AcquireBlock param held = not ((param == grow_code grow.BtoT) && same_perm held perm.Branch)
is_granted_data _ param held = false

-- GrantData if it carries the block, otherwise Grant
abbrev pub grant_opcode : Bool → OpD
grant_opcode true = d.GrantData
grant_opcode false = d.Grant

-- the bytes of a block in memory for a Grant with data, otherwise zeros
abbrev pub grant_payload : Bool → Memory → ℕ → List ℕ
grant_payload true memory block = bytes_from memory (64 * block) 64
grant_payload false memory block = no_payload

-- the answer to an Acquire, with data or without; its sink is the number of the service's tracker
abbrev pub grant_with : {w : ℕ} → Service w → Cap → Bool → Memory → Message w
grant_with s cap with_data memory = message.D (record {
  opcode = grant_opcode with_data;
  param = cap_code cap;
  size = 6;
  source = s.request.source;
  sink = s.tracker;
  denied = false;
  payload = grant_payload with_data memory (block_at s.request.address);
  corrupt = 0;
  small = lit≤ tt;
})

-- the Grant of an Acquire, by the permissions recorded when it is handed out
abbrev pub grant : {w : ℕ} → Config → Service w → Trace w → Memory → Message w
grant config s t memory =
    grant_with s
    (cap_granted config.profile s.request.opcode s.request.param (is_unheld config (block_at s.request.address) t))
    (is_granted_data s.request.opcode s.request.param (recorded s.link.0 (block_at s.request.address) t))
    memory

-- ---- the reaction to a complete message

-- the messages that are handed out, and the memory afterwards
pub record Reaction (w : ℕ) : Type 0 where
  pub handed : Handed w
  pub memory : Memory

-- no message is handed out, and memory stays
abbrev pub nothing : {w : ℕ} → Memory → Reaction w
nothing memory = record { handed = []; memory = memory }

-- a request is performed and answered: an Acquire gets its Grant, an access acts on memory
abbrev pub performed : {w : ℕ} → Config → Service w → Trace w → Memory → Reaction w
performed config s t memory =
    if is_acquire s.request.opcode
    then record { handed = (s.link, grant config s t memory) ∷ []; memory = memory }
    else record {
      handed = (
        s.link,
        access_answer s.request
            (answer_of (message.A s.request) (effect (message.A s.request) memory).1),
      ) ∷ [];
      memory = (effect (message.A s.request) memory).0;
    }
