-- The pending keys at the manager's end of each link: they follow from the requests in service and the unfinished
-- bursts.
use Rattle.std.specs.Prelude.{ℕ, Bool, true, false, not, List, [], ◌∷◌, ◌==◌, ◌&&◌, ◌||◌, ◌+◌, ◌≡◌, Option, Some, None}
use Rattle.std.specs.Prelude.{⊤}
use Rattle.tl_beat.specs.declared.beat.Beat.{Beat}
use Rattle.tl_beat.specs.declared.beat.Beat.TheVariants as beat
use Rattle.tl_beat.specs.declared.beat.BeatA.{BeatA}
use Rattle.tl_beat.specs.declared.channel.Channel.TheVariants as channel
use Rattle.tl_beat.specs.declared.opcode.OpA.{OpA}
use Rattle.tl_burst.specs.statement.Messages.{History, unfinished}
use Rattle.tl_params.specs.declared.config.Config.{Config}
use Rattle.tl_params.specs.declared.key.Key.TheVariants.{RequestSource, AcquireOf, GrantSink, GrantAckOf, ProbeOf}
use Rattle.tl_params.specs.declared.param.Cap.{Cap}
use Rattle.tl_rules.specs.statement.Conformance.{Trace, on_link, comes_in_request}
use Rattle.tl_rules.specs.statement.History.{block_at, is_acquire, is_probe_ack, pending, request_of, probe_of}
use Rattle.tl_rules.specs.statement.History.{grant_sink}
use Rattle.tl_manager.specs.statement.Handing.{probe_beat}
use Rattle.tl_manager.specs.statement.Holders.{cap_probed, is_settled, is_spared}
use Rattle.tl_manager.specs.statement.Service.{Service, services, service_of_block}

-- 1 for true, 0 for false
abbrev pub one_if : Bool → ℕ
one_if true = 1
one_if false = 0

-- the number of elements for which the test is true
abbrev pub count_where : {X : Type 0} → (X → Bool) → List X → ℕ
count_where test [] = 0
count_where test (x ∷ xs) = one_if (test x) + count_where test xs

-- the test is true of some element
abbrev pub is_any : {X : Type 0} → (X → Bool) → List X → Bool
is_any test [] = false
is_any test (x ∷ xs) = test x || is_any test xs

-- ---- the state of a service

-- the Grant of this Acquire was handed out, and its GrantAck is missing
abbrev pub is_granted : {w : ℕ} → Trace w → Service w → Bool
is_granted t s = is_acquire s.request.opcode && pending (GrantSink s.tracker) (on_link s.link.0 t)

-- the request came from this client with this source, and isn't answered
abbrev pub is_asking : {w : ℕ} → ℕ → ℕ → Trace w → Service w → Bool
is_asking client source t s = (s.link.0 == client) && ((s.request.source == source) && not (is_granted t s))

-- there is a service, its request is an Acquire of this client, and it isn't granted
abbrev pub is_acquiring : {w : ℕ} → ℕ → Trace w → Option (Service w) → Bool
is_acquiring client t None = false
is_acquiring client t (Some s) = is_acquire s.request.opcode && ((s.link.0 == client) && not (is_granted t s))

-- there is a service, its request is an Acquire of this client, and it is granted
abbrev pub is_granted_to : {w : ℕ} → ℕ → Trace w → Option (Service w) → Bool
is_granted_to client t None = false
is_granted_to client t (Some s) = (s.link.0 == client) && is_granted t s

-- the request is an Acquire of this client, and it is granted with this sink
abbrev pub is_granted_with : {w : ℕ} → ℕ → ℕ → Trace w → Service w → Bool
is_granted_with client sink t s = (s.link.0 == client) && ((s.tracker == sink) && is_granted t s)

-- there is no service, or it is granted, or a ProbeAck of its block is missing
abbrev pub is_awaited : {w : ℕ} → Config → ℕ → Trace w → Option (Service w) → Bool
is_awaited config block t None = true
is_awaited config block t (Some s) = is_granted t s || not (is_settled config block t)

-- ---- the messages that keys refer to

-- there is a request, and it has these control fields
abbrev pub HasFields : {w : ℕ} → OpA → ℕ → ℕ → ℕ → ℕ → Option (BeatA w) → Type 0
HasFields opcode param size source address None = ⊥
HasFields opcode param size source address (Some x) = (x.opcode ≡ opcode) × (x.param ≡ param) × (x.size ≡ size)
    × (x.source ≡ source) × (x.address ≡ address)

-- the unfinished request is no Acquire, and is the last one with its source
abbrev pub IsBegun : {w : ℕ} → History w → List (Beat w) → Type 0
IsBegun t [] = ⊤
IsBegun t (beat.A x ∷ burst) = (is_acquire x.opcode ≡ false) × HasFields x.opcode x.param x.size x.source x.address
    (request_of x.source t)
IsBegun t (_ ∷ burst) = ⊥

-- the unfinished ProbeAck answers a pending Probe
abbrev pub IsReporting : {w : ℕ} → History w → List (Beat w) → Type 0
IsReporting t (beat.C x ∷ burst) = is_probe_ack x.opcode ≡ true → pending (ProbeOf (block_at x.address)) t ≡ true
IsReporting t _ = ⊤

-- On the link of a service its request is the last one with its source, until it is answered. Once an Acquire is
-- granted, the sink of the block's last Grant is the service's tracker.
abbrev pub IsNamed : {w : ℕ} → ℕ → Trace w → Option (Service w) → Type 0
IsNamed block t None = ⊤
IsNamed block t (Some s) =
    (is_granted t s ≡ false → HasFields s.request.opcode s.request.param s.request.size s.request.source
    s.request.address (request_of s.request.source (on_link s.link.0 t)))
    × (is_granted t s ≡ true → grant_sink block (on_link s.link.0 t) ≡ Some s.tracker)

-- The block is in service for an unanswered request that probes this client, and the last Probe of the block is the
-- Probe for that request.
pub record IsProbed {w : ℕ} (client block : ℕ) (t : Trace w) : Type 0 where
  pub service : Service w
  pub cap : Cap
  pub serves : service_of_block block (services t) ≡ Some service
  pub unanswered : is_granted t service ≡ false
  pub others : is_spared service client ≡ false
  pub caps : cap_probed service.request.opcode service.request.param ≡ Some cap
  pub probe : probe_of block (on_link client t) ≡ Some (probe_beat block cap)

-- ---- the pending keys

-- The pending keys of a block on each link: the Acquire until its Grant, then its GrantAck; a Probe only for the
-- request in service.
pub record IsHandled {w : ℕ} (block : ℕ) (t : Trace w) : Type 0 where
  pub acquires : (client : ℕ) → pending (AcquireOf block) (on_link client t) ≡ is_acquiring client t
      (service_of_block block (services t))
  pub grants : (client : ℕ) → pending (GrantAckOf block) (on_link client t) ≡ is_granted_to client t
      (service_of_block block (services t))
  pub named : IsNamed block t (service_of_block block (services t))
  pub probes : (client : ℕ) → pending (ProbeOf block) (on_link client t) ≡ true → IsProbed client block t

-- A source is pending exactly if an unfinished request has it or an unanswered request in service does, and at most one
-- has it.
pub record IsAccounted {w : ℕ} (t : Trace w) : Type 0 where
  pub sources : (client source : ℕ)
      → one_if (comes_in_request source (unfinished channel.A (on_link client t))) + count_where
      (is_asking client source t) (services t) ≡ one_if (pending (RequestSource source) (on_link client t))
  pub begun : (client : ℕ) → IsBegun (on_link client t) (unfinished channel.A (on_link client t))
  pub reports : (client : ℕ) → IsReporting (on_link client t) (unfinished channel.C (on_link client t))
  pub blocks : (block : ℕ) → IsHandled block t

-- and each service is granted or waits for a ProbeAck
pub record IsSteady {w : ℕ} (config : Config) (t : Trace w) : Type 0 where
  pub accounted : IsAccounted t
  pub awaited : (block : ℕ) → is_awaited config block t (service_of_block block (services t)) ≡ true
