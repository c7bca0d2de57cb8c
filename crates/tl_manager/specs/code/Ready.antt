-- What is known of a beat that the manager takes, and of a request that it may perform.
use Rattle.std.specs.Prelude.{ℕ, true, false, [], ◌∷◌, ◌==◌, ◌≡◌, Some, None}
use Rattle.tl_beat.specs.statement.Width.{IsWidth}
use Rattle.tl_beat.specs.declared.beat.Beat.{Beat}
use Rattle.tl_beat.specs.declared.beat.Beat.TheVariants as beat
use Rattle.tl_beat.specs.declared.beat.BeatA.{BeatA}
use Rattle.tl_beat.specs.declared.beat.Link.{Link}
use Rattle.tl_beat.specs.declared.channel.Channel.TheVariants as channel
use Rattle.tl_burst.specs.statement.Messages.{History, unfinished}
use Rattle.tl_params.specs.declared.config.Config.{Config}
use Rattle.tl_params.specs.declared.key.Key.TheVariants.{ProbeOf}
use Rattle.tl_rules.specs.statement.Conformance.{Trace, on_link, broken_in_order}
use Rattle.tl_rules.specs.statement.History.{ends, pending}
use Rattle.tl_manager.specs.code.Kept.{AreApart, IsSound, IsKept, blocks_of}
use Rattle.tl_manager.specs.laws.Pending.{is_granted, is_awaited, IsAccounted}
use Rattle.tl_manager.specs.statement.Service.{Service, service_of, services, service_of_block, trackers_of}
use Rattle.tl_manager.specs.statement.End.{End}
use Rattle.tl_manager.specs.statement.Offer.{is_from_client, must_wait}

abbrev pub IsWhole : {w : ℕ} → History w → Type 0
IsWhole t = (unfinished channel.B t ≡ []) × (unfinished channel.D t ≡ [])

-- a beat that passes is one of a client, breaks no rule, and needn't wait
pub record IsPassed {w : ℕ} (config : Config) (link : Link) (x : Beat w) (t : Trace w) : Type 0 where
  pub theirs : is_from_client x ≡ true
  pub sound : IsSound config (link, x)
  pub order : broken_in_order config.profile x (on_link link.0 t) ≡ None
  pub waits : must_wait config link x t ≡ false

-- a client's beat that passes, with the state before it, and the services afterwards
pub record IsTaken {w : ℕ} (config : Config) (link : Link) (x : Beat w) (e : End w) : Type 0 where
  pub width : IsWidth w
  pub before : IsKept config e
  pub passes : IsPassed config link x e.trace
  pub blocks_apart : AreApart (blocks_of (services ((link, x) ∷ e.trace)))
  pub trackers_apart : AreApart (trackers_of (services ((link, x) ∷ e.trace)))

-- the service of the request that a beat completes
pub record IsServed {w : ℕ} (link : Link) (x : BeatA w) (s : Service w) (t : Trace w) : Type 0 where
  pub last : ends (beat.A x) (on_link link.0 t) ≡ true
  pub made : service_of link (beat.A x ∷ unfinished channel.A (on_link link.0 t)) (services t) ≡ Some s

-- the service of the block, which isn't answered, if no ProbeAck of it is missing
pub record IsReady {w : ℕ} (config : Config) (n : ℕ) (s : Service w) (t : Trace w) : Type 0 where
  pub width : IsWidth w
  pub accounted : IsAccounted t
  pub serves : service_of_block n (services t) ≡ Some s
  pub unanswered : is_granted t s ≡ false
  pub settled : (c : ℕ) → pending (ProbeOf n) (on_link c t) ≡ false
  pub whole : (c : ℕ) → IsWhole (on_link c t)
  pub blocks_apart : AreApart (blocks_of (services t))
  pub trackers_apart : AreApart (trackers_of (services t))
  pub awaited : (k : ℕ) → (n == k) ≡ false → is_awaited config k t (service_of_block k (services t)) ≡ true
