-- What is delivered on a link: the values of the flow are those of the protocol.
use Rattle.std.specs.Prelude.{ℕ, Bool, true, false, not, List, ◌&&◌, ◌||◌, ◌≡◌, if◌then◌else◌, Option, Some, None}
use Rattle.std.specs.Prelude.{option_map}
use Rattle.tl_beat.specs.declared.beat.Beat.{Beat}
use Rattle.tl_beat.specs.declared.beat.BeatA.{BeatA}
use Rattle.tl_beat.specs.declared.channel.Channel.{Channel}
use Rattle.tl_beat.specs.declared.channel.Channel.TheVariants as channel
use Rattle.tl_burst.specs.statement.Messages.{History, unfinished}
use Rattle.tl_params.specs.declared.key.Key.TheVariants.{RequestSource, ReleaseSource, AcquireOf, ReleaseOf}
use Rattle.tl_params.specs.declared.key.Key.TheVariants.{GrantAckOf, ProbeOf}
use Rattle.tl_rules.specs.statement.Conformance.{comes_in_request, comes_in_release}
use Rattle.tl_rules.specs.statement.History.{held, pending, block_at, request_of, release_of, probe_of, grant_sink}
use Rattle.tl_coherence.specs.protocol.Phase.{ReleasePhase, NoRelease, ReleaseSent, ReleaseAcked}
use Rattle.tl_coherence.specs.protocol.Protocol.{State, SourceState, SourceFree, Asked, InService, Replied, Acquires}
use Rattle.tl_coherence.specs.protocol.Protocol.{view}
use Rattle.tl_coherence.specs.protocol.Tokens.{is_granting, is_acknowledging, is_answered, is_wanting, is_unserved}
use Rattle.tl_coherence.specs.refinement.ClientRelation.{comes_granting}
use Rattle.tl_coherence.specs.refinement.PacketMessages.{probe_beat}
use Rattle.tl_coherence.specs.refinement.SourceRelation.{cap_waited}

-- some of the request with this source was delivered, where `rest` is what the manager has of the message that is
-- first on channel A, and the last of its response wasn't
abbrev pub is_requested : {w : ℕ} {X : Type 0} → ℕ → ℕ → List (Beat w) → SourceState → State X → Bool
is_requested c source rest SourceFree s = false
is_requested c source rest Asked s = comes_in_request source rest
is_requested c source rest (InService n) s = true
is_requested c source rest Replied s = true
is_requested c source rest (Acquires n) s = not (is_unserved (view (s.block n).service c))

-- the same of the Release with this source, where `rest` is that of channel C
abbrev pub is_release_pending : {w : ℕ} → ℕ → List (Beat w) → ReleasePhase → Bool
is_release_pending source rest NoRelease = false
is_release_pending source rest (ReleaseSent r) = comes_in_release source rest
is_release_pending source rest ReleaseAcked = true

abbrev pub is_let_by : {w : ℕ} {X : Type 0} → ℕ → ℕ → List (Beat w) → Option ℕ → State X → Bool
is_let_by c source rest None s = false
is_let_by c source rest (Some n) s = is_release_pending source rest ((s.block n).pair c).letting

-- The flow of client c's link: `asked` is the first beat of the open request of each source, and `rest` what of each
-- channel's first message was delivered.
pub record MonitorRelation {w : ℕ} {X : Type 0} (asked : ℕ → Option (BeatA w)) (rest : Channel → List (Beat w)) (c : ℕ)
    (s : State X) (t : History w) : Type 0 where
  pub rest_is : (ch : Channel) → unfinished ch t ≡ rest ch
  pub held_is : (n : ℕ) → held n t ≡ (if is_granting (view (s.block n).service c) then ((s.block n).pair c).held else
      ((s.block n).pair c).recorded)
  pub requests : (source : ℕ) → pending (RequestSource source) t ≡ is_requested c source (rest channel.A)
      (s.uses c source) s
  pub asked_is : (source : ℕ) → pending (RequestSource source) t ≡ true → request_of source t ≡ asked source
  pub acquires : (n : ℕ) → pending (AcquireOf n) t ≡ is_wanting ((s.block n).pair c).acquiring && not
      (is_unserved (view (s.block n).service c))
  pub release_sources : (source : ℕ) → pending (ReleaseSource source) t ≡ is_let_by c source (rest channel.C)
      (s.lets c source) s
  pub released : (source n : ℕ) → s.lets c source ≡ Some n → pending (ReleaseSource source) t ≡ true
      → option_map (λ x. block_at x.address) (release_of source t) ≡ Some n
  pub sizes : (source n : ℕ) → s.lets c source ≡ Some n → pending (ReleaseSource source) t ≡ true
      → option_map (λ x. x.size) (release_of source t) ≡ Some 6
  pub releases : (n : ℕ) → pending (ReleaseOf n) t ≡ is_release_pending ((s.block n).release_source c) (rest channel.C)
      ((s.block n).pair c).letting
  pub grants : (n : ℕ) → pending (GrantAckOf n) t ≡ (is_acknowledging (view (s.block n).service c) || comes_granting n
      asked (rest channel.D))
  pub probes : (n : ℕ) → pending (ProbeOf n) t ≡ is_answered ((s.block n).pair c).probing
  -- the Probe whose ProbeAck wasn't delivered has the cap of the service
  pub probed : (n : ℕ) → is_answered ((s.block n).pair c).probing ≡ true
      → probe_of n t ≡ Some (probe_beat n (cap_waited (s.block n).service))
  -- the Grant whose GrantAck wasn't delivered has the tracker for its sink
  pub sunk : (n : ℕ) → pending (GrantAckOf n) t ≡ true → grant_sink n t ≡ Some (s.block n).tracker
