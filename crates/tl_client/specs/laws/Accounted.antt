-- The pending keys at a client's end, and the messages that account for them.
use Rattle.std.specs.Prelude.{ℕ, Bool, true, false, List, ◌∷◌, ◌≡◌, Option, Some, None, ⊤}
use Rattle.tl_beat.specs.declared.beat.Beat.{Beat}
use Rattle.tl_beat.specs.declared.beat.Beat.TheVariants as beat
use Rattle.tl_beat.specs.declared.channel.Channel.TheVariants as channel
use Rattle.tl_burst.specs.statement.Messages.{History, unfinished}
use Rattle.tl_params.specs.declared.key.Key.TheVariants.{AcquireOf, ReleaseOf, GrantSink, GrantAckOf, ProbeOf}
use Rattle.tl_rules.specs.statement.Conformance.{admits, comes_in_grant}
use Rattle.tl_rules.specs.statement.History.{grants, grant_sink, pending, releases}
use Rattle.tl_client.specs.statement.EndpointInvariant.{acquires}
use Rattle.tl_client.specs.statement.Requests.{open_beat, open_release}

-- While an Acquire of a block is pending, a pending request is that Acquire. While a Release of it is pending, one
-- pending Release is it. The two are never pending at once.
pub record IsClaimed {w : ℕ} (t : History w) : Type 0 where
  pub acquired : (k : ℕ) → pending (AcquireOf k) t ≡ true → (s : ℕ) × (acquires k (open_beat s t) ≡ true)
  pub released : (k : ℕ) → pending (ReleaseOf k) t ≡ true → (s : ℕ) × (releases k (open_release s t) ≡ true)
  pub releasing : (s k : ℕ) → releases k (open_release s t) ≡ true → pending (ReleaseOf k) t ≡ true
  pub release_once : (s r k : ℕ) → releases k (open_release s t) ≡ true → releases k (open_release r t) ≡ true → s ≡ r
  pub apart : (k : ℕ) → pending (AcquireOf k) t ≡ true → pending (ReleaseOf k) t ≡ false

-- the unfinished response is a Grant of the block
abbrev pub comes_granting : {w : ℕ} → ℕ → List (Beat w) → History w → Bool
comes_granting k (beat.D x ∷ burst) t = grants k x t
comes_granting k _ t = false

-- the sink of the unfinished response, if there is one
abbrev pub sink_coming : {w : ℕ} → List (Beat w) → Option ℕ
sink_coming (beat.D x ∷ burst) = Some x.sink
sink_coming _ = None

-- the unfinished response answers a pending request
abbrev pub IsAnswering : {w : ℕ} → List (Beat w) → History w → Type 0
IsAnswering (beat.D x ∷ burst) t = admits x.opcode (open_beat x.source t) ≡ true
IsAnswering _ t = ⊤

-- No Probe is pending. A sink or a GrantAck is pending only while its Grant is unfinished.
pub record IsAcked {w : ℕ} (t : History w) : Type 0 where
  pub probes : (k : ℕ) → pending (ProbeOf k) t ≡ false
  pub sinks : (s : ℕ) → pending (GrantSink s) t ≡ comes_in_grant s (unfinished channel.D t)
  pub acks : (k : ℕ) → pending (GrantAckOf k) t ≡ comes_granting k (unfinished channel.D t) t
  pub ack_sinks : (k : ℕ) → comes_granting k (unfinished channel.D t) t ≡ true
      → grant_sink k t ≡ sink_coming (unfinished channel.D t)
  pub answering : IsAnswering (unfinished channel.D t) t

-- the pending keys are accounted for
pub record IsAccounted {w : ℕ} (t : History w) : Type 0 where
  pub claimed : IsClaimed t
  pub acked : IsAcked t
