-- The log of a world's events and outcomes determines its state.
use Rattle.std.specs.Prelude.{ℕ, List, [], ◌∷◌, ◌≡◌, ◌<◌, ◌≤◌, ◌/◌, ◌⊎◌, if◌then◌else◌, nat_lt, max, length}
use Rattle.std.specs.Prelude.{slice_index_or, Option, Some, None, Result, Ok, Err}
use Rattle.tl_beat.specs.declared.channel.Channel.{Channel}
use Rattle.tl_params.specs.declared.config.Config.{Config}
use Rattle.tl_params.specs.declared.config.NewFault.{NewFault}
use Rattle.tl_params.specs.declared.config.NewFault.TheVariants.{Memory}
use Rattle.tl_params.specs.declared.perm.Perm.{Perm}
use Rattle.tl_params.specs.declared.perm.Perm.TheVariants as perm
use Rattle.tl_params.specs.statement.Config.{config_fault}
use Rattle.tl_client.specs.statement.Endpoint.{EndConfig, Endpoint, held_at}
use Rattle.tl_client.specs.statement.Endpoint as client
use Rattle.tl_coherence.specs.declared.event.Event.{Event}
use Rattle.tl_coherence.specs.declared.event.Outcome.{Outcome}
use Rattle.tl_world.specs.declared.state.WorldState.{WorldState}
use Rattle.tl_world.specs.declared.ring.Ring.{Ring}
use Rattle.tl_world.specs.statement.Places.{clients_of, place}
use Rattle.tl_coherence.specs.statement.Delivery.{capacity, sources_of}
use Rattle.tl_coherence.specs.statement.Headline.{IsGiven}
use Rattle.tl_world.specs.code.Holds.{Holds}
use Rattle.tl_coherence.specs.statement.Load.{requests, releases}
use Rattle.tl_coherence.specs.statement.Log.{Log, system_after, logged}
use Rattle.tl_coherence.specs.statement.System.{System, terms_at}
use Rattle.tl_coherence.specs.statement.Theorem.{Theorem}

-- the greatest number of beats that a channel has ever held
unfoldable pub deepest : {w : ℕ} → Config → Log w → ℕ → Channel → ℕ
deepest config [] link ch = 0
deepest config (x ∷ log) link ch =
    max (deepest config log link ch) (length ((system_after config (x ∷ log)).channels link ch))

-- The log is one of a configuration within its limits, and leads to this state.
pub record IsReached {w : ℕ} {A M : Type 0} (knows : A → Endpoint w → Type 0) (terms : A → EndConfig) (perm_of : M → ℕ
    → ℕ → Perm) (config : Config) (state : WorldState w A M) (log : Log w) : Type 0 where
  pub given : IsGiven config log
  pub holds : Holds knows terms perm_of config state.network (system_after config log)
  pub requests_are : state.outstanding.requests ≡ requests log
  pub releases_are : state.outstanding.releases ≡ releases log
  pub depths : (k : ℕ) (ch : Channel) (d : Ring w) → k < clients_of config
      → (slice_index_or state.network.rings.all.items (place k ch) d).deepest ≡ deepest config log k ch
  -- all facts that are proved of each log of each configuration
  pub theorem : Theorem w
  -- no channel ever held more beats than it has room for
  pub shallow : (link : ℕ) (ch : Channel)
      → deepest config log link ch ≤ capacity (64 / w) (sources_of (terms_at config link)) config.trackers ch

-- This holds of each configuration, and of each log of it that leads to this state.
abbrev pub OnEachLog : {w : ℕ} {A M : Type 0} → (A → Endpoint w → Type 0) → (A → EndConfig) → (M → ℕ → ℕ → Perm)
    → WorldState w A M → (Config → Log w → Type 0) → Type 0
OnEachLog {w} knows terms perm_of state holds_of = (config : Config) (log : Log w)
    → IsReached knows terms perm_of config state log → holds_of config log

-- Each log that leads to the state `before`, continued in this way, leads to the state `after`.
abbrev pub IsContinued : {w : ℕ} {A M : Type 0} → (A → Endpoint w → Type 0) → (A → EndConfig) → (M → ℕ → ℕ → Perm)
    → WorldState w A M → WorldState w A M → (Config → Log w → Log w) → Type 0
IsContinued knows terms perm_of before after continued = OnEachLog knows terms perm_of before
    (λ config log. IsReached knows terms perm_of config after (continued config log))

-- some log of some configuration leads to this state
unfoldable pub IsWorld : {w : ℕ} {A M : Type 0} → (A → Endpoint w → Type 0) → (A → EndConfig) → (M → ℕ → ℕ → Perm)
    → WorldState w A M → Type 0
IsWorld {w} knows terms perm_of state = (config : Config) × (log : Log w) × IsReached knows terms perm_of config state
    log

-- the first limit that is broken, or `Memory`
abbrev pub IsFault : Config → NewFault → Type 0
IsFault config fault = (config_fault config ≡ Some fault) ⊎ ((config_fault config ≡ None) × (fault ≡ Memory))

-- The state of a new world is that of the empty log. The error is the first limit that is broken, or `Memory`.
abbrev pub IsNewWorld : {w : ℕ} {A M : Type 0} → (A → Endpoint w → Type 0) → (A → EndConfig) → (M → ℕ → ℕ → Perm)
    → Config → Result (WorldState w A M) NewFault → Type 0
IsNewWorld knows terms perm_of config (Ok state) = IsReached knows terms perm_of config state []
IsNewWorld knows terms perm_of config (Err fault) = IsFault config fault

-- If there is a world, these events have happened, with these outcomes. Otherwise the outcomes are as before.
abbrev pub IsReplayed : {w : ℕ} {A M : Type 0} → (A → Endpoint w → Type 0) → (A → EndConfig) → (M → ℕ → ℕ → Perm)
    → Config → List (Event w) → List (Outcome w)
    → List (Outcome w) → Result (WorldState w A M) NewFault → Type 0
IsReplayed knows terms perm_of config events old new (Ok state) =
    IsReached knows terms perm_of config state (logged events new [])
IsReplayed knows terms perm_of config events old new (Err fault) = IsNewWorld knows terms perm_of config (Err fault)
    × (new ≡ old)

-- the clients have the configuration, and have sent and taken nothing
pub record AreReady {w : ℕ} {A : Type 0} (knows : A → Endpoint w → Type 0) (terms : A → EndConfig) (config : Config)
    (clients : List A) : Type 0 where
  pub one_each : length clients ≡ clients_of config
  pub fresh : (k : ℕ) (d : A) → k < clients_of config → knows (slice_index_or clients k d) client.fresh
  pub terms_are : (k : ℕ) (d : A) → k < clients_of config
      → terms_at config k ≡ Some (terms (slice_index_or clients k d))

-- the directory covers the blocks and clients, and no permission is recorded
pub record IsEmpty {M : Type 0} (perm_of : M → ℕ → ℕ → Perm) (blocks_of clients_in : M → ℕ) (config : Config)
    (directory : M) : Type 0 where
  pub nothing : (block client : ℕ) → perm_of directory block client ≡ perm.None
  pub blocks : config.blocks ≤ blocks_of directory
  pub clients : clients_of config ≤ clients_in directory

-- ---- the state that a caller sees

-- the permission that a client holds of a block; None if there is no such client
abbrev pub held_by : {w : ℕ} → Config → ℕ → ℕ → System w → Perm
held_by config client block s = if nat_lt client (clients_of config) then held_at (s.clients client) block else
    perm.None

-- the bytes of a client's copy of a block, if there is such a client and it has a copy
abbrev pub copy_by : {w : ℕ} → Config → ℕ → ℕ → System w → Option (List ℕ)
copy_by config client block s = if nat_lt client (clients_of config) then (s.clients client).copies block else None

-- the greatest number of beats that a channel has ever held; 0 if there is no such client
abbrev pub deepest_by : {w : ℕ} → Config → Log w → ℕ → Channel → ℕ
deepest_by config log link ch = if nat_lt link (clients_of config) then deepest config log link ch else 0
