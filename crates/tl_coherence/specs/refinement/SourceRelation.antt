-- What the ends know of sources, sinks and requests: the values of their histories are those of the protocol.
use Rattle.std.specs.Prelude.{ℕ, Bool, true, false, ◌||◌, ◌≡◌, Option, Some, None, is_some, option_map, ⊤}
use Rattle.tl_beat.specs.declared.beat.BeatA.{BeatA}
use Rattle.tl_beat.specs.declared.channel.Channel.TheVariants as channel
use Rattle.tl_burst.specs.declared.message.MessageA.{MessageA}
use Rattle.tl_burst.specs.statement.Burst.{a_beat_of}
use Rattle.tl_burst.specs.statement.Messages.{History, unfinished}
use Rattle.tl_params.specs.declared.key.Key.TheVariants.{RequestSource, ReleaseSource, GrantSink}
use Rattle.tl_params.specs.declared.param.Cap.{Cap}
use Rattle.tl_params.specs.declared.param.Cap.TheVariants as cap
use Rattle.tl_rules.specs.statement.Conformance.{Trace, on_link, comes_in_request}
use Rattle.tl_rules.specs.statement.History.{pending, block_at, is_acquire, request_of, release_of, probe_of}
use Rattle.tl_manager.specs.statement.Holders.{cap_probed}
use Rattle.tl_coherence.specs.protocol.Phase.{is_unprobed}
use Rattle.tl_coherence.specs.protocol.Protocol.{Service, Free, Waits, GrantSent, GrantTaken, State, SourceState}
use Rattle.tl_coherence.specs.protocol.Protocol.{InService, Acquires, view}
use Rattle.tl_coherence.specs.protocol.Tokens.{is_granting, is_acknowledging}
use Rattle.tl_coherence.specs.refinement.ManagerRelation.{is_own}
use Rattle.tl_coherence.specs.refinement.PacketMessages.{probe_beat}

-- ---- a client's end

-- Client c with this history: `asked` is the first beat of the open request of each source.
pub record OpenSourceRelation {w : ℕ} {X : Type 0} (asked : ℕ → Option (BeatA w)) (c : ℕ) (s : State X)
    (t : History w) : Type 0 where
  pub requests : (source : ℕ) → pending (RequestSource source) t ≡ is_some (asked source)
  pub releases : (source : ℕ) → pending (ReleaseSource source) t ≡ is_some (s.lets c source)
  -- the last Release with a source that is open is of its block
  pub released : (source n : ℕ) → s.lets c source ≡ Some n → option_map (λ x. block_at x.address) (release_of source t)
      ≡ Some n
  pub sizes : (source n : ℕ) → s.lets c source ≡ Some n → option_map (λ x. x.size) (release_of source t) ≡ Some 6

-- ---- the manager's end

-- the request with this source, that this use is of, is in service and not answered
abbrev pub is_served : {X : Type 0} → ℕ → SourceState → State X → Bool
is_served c (InService n) s = true
is_served c (Acquires n) s = is_own (view (s.block n).service c)
is_served c _ s = false

-- the tracker, which has this block, is that of a Grant to the client whose GrantAck is missing
abbrev pub is_granted : {X : Type 0} → ℕ → Option ℕ → State X → Bool
is_granted c None s = false
is_granted c (Some n) s = is_granting (view (s.block n).service c) || is_acknowledging (view (s.block n).service c)

-- the request that has the block in service so
abbrev pub IsFor : {w : ℕ} → Service → ℕ → MessageA w → Type 0
IsFor Free n m = ⊤
IsFor (Waits r own source k) n m = (is_acquire m.opcode ≡ own) × (m.source ≡ source) × (block_at m.address ≡ n)
    × (cap_probed m.opcode m.param ≡ Some k)
IsFor (GrantSent q d k) n m = (is_acquire m.opcode ≡ true) × (block_at m.address ≡ n)
IsFor (GrantTaken q) n m = (is_acquire m.opcode ≡ true) × (block_at m.address ≡ n)

-- the cap with which a service probes
abbrev pub cap_waited : Service → Cap
cap_waited (Waits r own source k) = k
cap_waited _ = cap.ToN

-- The manager with this trace: `request` is the request that has each block in service. (What is pending of Releases,
-- tl_manager's IsKept says.)
pub record ServedSourceRelation {w : ℕ} {X : Type 0} (request : ℕ → MessageA w) (s : State X) (t : Trace w) : Type 0
  where
    pub sources : (c source : ℕ)
        → pending (RequestSource source) (on_link c t) ≡ (is_served c (s.uses c source) s || comes_in_request source
        (unfinished channel.A (on_link c t)))
    pub sinks : (c sink : ℕ) → pending (GrantSink sink) (on_link c t) ≡ is_granted c (s.tracked sink) s
    pub requests : (n : ℕ) → IsFor (s.block n).service n (request n)
    -- the request with the source of one that waits is that one
    pub asked : (n r source : ℕ) (own : Bool) (k : Cap) → (s.block n).service ≡ Waits r own source k
        → request_of source (on_link r t) ≡ Some (a_beat_of (request n) 0)
    -- the Probe whose ProbeAck is missing has the cap of the service
    pub probes : (c n : ℕ) → is_unprobed ((s.block n).pair c).probing ≡ false
        → probe_of n (on_link c t) ≡ Some (probe_beat n (cap_waited (s.block n).service))
