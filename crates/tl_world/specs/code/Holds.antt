-- What a world holds, and what becomes of it by an event.
use Rattle.std.specs.Prelude.{ℕ, Bool, true, false, ◌≡◌, ◌<◌, ◌≤◌, ◌/◌, length, slice_index_or, Some}
use Rattle.tl_beat.specs.declared.beat.Beat.{Beat}
use Rattle.tl_beat.specs.declared.beat.Beat.TheVariants as beat
use Rattle.tl_beat.specs.declared.channel.Channel.{Channel}
use Rattle.tl_params.specs.declared.config.Config.{Config}
use Rattle.tl_params.specs.declared.perm.Perm.{Perm}
use Rattle.tl_client.specs.declared.verdict.Verdict.{Verdict}
use Rattle.tl_client.specs.declared.verdict.Verdict.TheVariants as verdict
use Rattle.tl_client.specs.statement.Endpoint.{EndConfig}
use Rattle.tl_client.specs.statement.Endpoint as client
use Rattle.tl_manager.specs.code.Knows.{Knows}
use Rattle.tl_coherence.specs.declared.event.Event.{Event}
use Rattle.tl_coherence.specs.declared.event.Outcome.{Outcome}
use Rattle.tl_world.specs.declared.network.Network.{Network}
use Rattle.tl_world.specs.declared.ring.Ring.{Ring}
use Rattle.tl_world.specs.code.Carrying.{place, Carries, Deepen}
use Rattle.tl_coherence.specs.statement.Delivery.{capacity, sources_of}
use Rattle.tl_coherence.specs.statement.Step.{stepped}
use Rattle.tl_coherence.specs.statement.System.{System, terms_at}
pub use Rattle.tl_world.specs.statement.Places.{clients_of}

-- The parts hold what the configured whole is: each client knows its end, the manager knows its own, and the
-- channels, made for as many beats as they can ever hold, carry the same beats.
pub record Holds {w : ℕ} {A M : Type 0} (knows : A → client.Endpoint w → Type 0) (terms : A → EndConfig) (perm_of : M
    → ℕ → ℕ → Perm) (config : Config) (network : Network w A M) (s : System w) : Type 0 where
  pub one_client_each : length network.clients.items ≡ clients_of config
  pub clients : (k : ℕ) (d : A) → k < clients_of config → knows (slice_index_or network.clients.items k d) (s.clients k)
  pub terms_are : (k : ℕ) (d : A) → k < clients_of config
      → terms_at config k ≡ Some (terms (slice_index_or network.clients.items k d))
  pub manager : Knows perm_of network.manager config s.manager
  pub channels : Carries (clients_of config) network.rings s
  pub room : (k : ℕ) (ch : Channel) (d : Ring w) → k < clients_of config →
      (slice_index_or network.rings.all.items (place k ch) d).beats.capacity ≡ capacity (64 / w)
      (sources_of (terms_at config k)) config.trackers ch

-- no channel holds more beats than it is made for
abbrev pub HasRoom : {w : ℕ} → Config → System w → Type 0
HasRoom {w} config s = (k : ℕ) (ch : Channel)
    → length (s.channels k ch) ≤ capacity (64 / w) (sources_of (terms_at config k)) config.trackers ch

-- The outcome is the one that comes of the event, and the new parts hold the whole afterwards.
pub record IsStepped {w : ℕ} {A M : Type 0} (knows : A → client.Endpoint w → Type 0) (terms : A → EndConfig)
    (perm_of : M → ℕ → ℕ → Perm) (config : Config)
    (old new : Network w A M) (event : Event w) (outcome : Outcome w) (s : System w) : Type 0 where
  pub outcome_is : outcome ≡ (stepped config event s).outcome
  pub holds : Holds knows terms perm_of config new (stepped config event s).after
  pub deepen : Deepen (clients_of config) old.rings new.rings

-- a beat that is answered so stays on its channel
abbrev pub is_stay : Verdict → Bool
is_stay verdict.Stalled = true
is_stay _ = false

-- a beat that its taker may stall: a request or a Probe
abbrev pub may_wait : {w : ℕ} → Beat w → Bool
may_wait (beat.A x) = true
may_wait (beat.B x) = true
may_wait _ = false
