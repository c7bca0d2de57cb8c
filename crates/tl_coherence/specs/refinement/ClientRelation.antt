-- What a client's end of its link knows: the values of its history are those of the protocol.
use Rattle.std.specs.Prelude.{ℕ, Bool, false, not, List, ◌∷◌, ◌&&◌, ◌≡◌, Option}
use Rattle.tl_beat.specs.declared.beat.Beat.{Beat}
use Rattle.tl_beat.specs.declared.beat.Beat.TheVariants as beat
use Rattle.tl_beat.specs.declared.beat.BeatA.{BeatA}
use Rattle.tl_beat.specs.declared.channel.Channel.TheVariants as channel
use Rattle.tl_burst.specs.statement.Messages.{History, unfinished}
use Rattle.tl_params.specs.declared.key.Key.TheVariants.{AcquireOf, ReleaseOf, GrantSink, GrantAckOf, ProbeOf}
use Rattle.tl_rules.specs.statement.Conformance.{comes_in_grant}
use Rattle.tl_rules.specs.statement.History.{held, pending, is_grant, asks_for}
use Rattle.tl_client.specs.statement.Requests.{open_beat}
use Rattle.tl_coherence.specs.protocol.Phase.{is_unreleased}
use Rattle.tl_coherence.specs.protocol.Protocol.{State}
use Rattle.tl_coherence.specs.protocol.Tokens.{is_wanting}

-- the beats are those of a Grant of the block, given the open request of each source
abbrev pub comes_granting : {w : ℕ} → ℕ → (ℕ → Option (BeatA w)) → List (Beat w) → Bool
comes_granting n asked (beat.D x ∷ rest) = is_grant x.opcode && asks_for n (asked x.source)
comes_granting n asked _ = false

-- The end of client c with this history: `asked` is the first beat of the open request of each source,
-- and `rest` what it took of the message that is first on channel D.
pub record ClientRelation {w : ℕ} {X : Type 0} (asked : ℕ → Option (BeatA w)) (rest : List (Beat w)) (c : ℕ)
    (s : State X) (t : History w) : Type 0 where
  pub held_is : (n : ℕ) → held n t ≡ ((s.block n).pair c).held
  pub acquires : (n : ℕ) → pending (AcquireOf n) t ≡ is_wanting ((s.block n).pair c).acquiring
  pub releases : (n : ℕ) → pending (ReleaseOf n) t ≡ not (is_unreleased ((s.block n).pair c).letting)
  pub probes : (n : ℕ) → pending (ProbeOf n) t ≡ false
  pub opens : (source : ℕ) → open_beat source t ≡ asked source
  pub rest_is : unfinished channel.D t ≡ rest
  pub sinks : (sink : ℕ) → pending (GrantSink sink) t ≡ comes_in_grant sink rest
  pub grants : (n : ℕ) → pending (GrantAckOf n) t ≡ comes_granting n asked rest
