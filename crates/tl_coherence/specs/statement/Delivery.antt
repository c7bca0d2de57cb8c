-- Facts about each delivery.
use Rattle.std.specs.Prelude.{ℕ, Bool, true, false, not, List, ◌∷◌, ◌++◌, ◌≡◌, ◌≤◌, ◌&&◌, ◌↔◌, ◌+◌, ◌*◌, ◌/◌}
use Rattle.std.specs.Prelude.{if◌then◌else◌, length, map, reverse, Option, Some, None}
use Rattle.tl_beat.specs.declared.beat.Beat.{Beat}
use Rattle.tl_beat.specs.declared.beat.Beat.TheVariants as beat
use Rattle.tl_beat.specs.declared.channel.Channel.{Channel}
use Rattle.tl_beat.specs.declared.channel.Channel.TheVariants as channel
use Rattle.tl_burst.specs.statement.Messages.{History, channel_of, carried_on}
use Rattle.tl_burst.specs.statement.Part.{is_empty}
use Rattle.tl_params.specs.declared.config.Config.{Config}
use Rattle.tl_params.specs.declared.level.Level.{Level}
use Rattle.tl_params.specs.declared.param.Prune.{Prune}
use Rattle.tl_rules.specs.statement.Conformance.{on_link, is_legal, first_fault}
use Rattle.tl_rules.specs.statement.History.{block_at}
use Rattle.tl_client.specs.declared.operation.Op.TheVariants.{Release}
use Rattle.tl_client.specs.statement.Endpoint.{EndConfig}
use Rattle.tl_manager.specs.statement.Offer.{level_of, must_wait}
use Rattle.tl_coherence.specs.declared.event.Event.TheVariants.{Deliver}
use Rattle.tl_coherence.specs.declared.event.Outcome.{Outcome}
use Rattle.tl_coherence.specs.declared.event.Outcome.TheVariants as outcome
use Rattle.tl_coherence.specs.statement.Coherent.{started}
use Rattle.tl_coherence.specs.statement.Flow.{flow, trace_of}
use Rattle.tl_coherence.specs.statement.Log.{Log, system_after}
use Rattle.tl_coherence.specs.statement.Machine.{Releases, is_client}
use Rattle.tl_coherence.specs.statement.Movable.{is_movable}
use Rattle.tl_coherence.specs.statement.Step.{is_to_client, stepped}
use Rattle.tl_coherence.specs.statement.System.{System, terms_at}
use Rattle.tl_coherence.specs.statement.Headline.{IsGiven}

-- ---- channels and flows

-- the history of the end that sends on a channel of a link
abbrev pub sender : {w : ℕ} → Channel → ℕ → System w → History w
sender ch link s = if is_to_client ch then on_link link s.manager.trace else (s.clients link).past

-- the history of the end that takes the beats of a channel of a link
abbrev pub receiver : {w : ℕ} → Channel → ℕ → System w → History w
receiver ch link s = if is_to_client ch then (s.clients link).past else on_link link s.manager.trace

-- A channel holds, in order, the beats that one end handed out and the other end hasn't taken. The beats that the other
-- end took are those that were delivered.
pub record IsFifo {w : ℕ} (s : System w) (log : Log w) (link : ℕ) (ch : Channel) : Type 0 where
  pub under_way : carried_on ch (sender ch link s) ≡ reverse (s.channels link ch) ++ carried_on ch (receiver ch link s)
  pub delivered : carried_on ch (receiver ch link s) ≡ carried_on ch (flow link log)

-- each channel of each link loses no beat and keeps their order
abbrev pub Fifo : ℕ → Type 0
Fifo w = (config : Config) (log : Log w) → IsGiven config log → (link : ℕ) (ch : Channel)
    → IsFifo (system_after config log) log link ch

-- the beats delivered on each link break no rule
abbrev pub Flows : ℕ → Type 0
Flows w = (config : Config) (log : Log w) → IsGiven config log → (link : ℕ) (l : Level) → level_of config link ≡ Some l
    →
    is_legal l config.profile (flow link log) ≡ true

-- the levels of the links
abbrev pub levels_of : Config → List Level
levels_of config = map (λ client. client.level) config.clients.items

-- the beats delivered on all links, as one trace with the oldest first, have no first fault
abbrev pub Faultless : ℕ → Type 0
Faultless w = (config : Config) (log : Log w) → IsGiven config log
    → first_fault (levels_of config) config.profile (reverse (trace_of log)) ≡ None

-- the number of beats for which a channel has room; n is the number of beats of a block
abbrev pub capacity : ℕ → ℕ → ℕ → Channel → ℕ
capacity n sources trackers channel.A = n * sources
capacity n sources trackers channel.B = trackers
capacity n sources trackers channel.C = n * (sources + trackers)
capacity n sources trackers channel.D = (n + 1) * sources
capacity n sources trackers channel.E = trackers

-- the number of sources of a client, 0 if there is none
abbrev pub sources_of : Option EndConfig → ℕ
sources_of None = 0
sources_of (Some terms) = terms.sources

-- no channel ever holds more beats than that
abbrev pub CapacityBound : ℕ → Type 0
CapacityBound w = (config : Config) (log : Log w) → IsGiven config log → (link : ℕ) (ch : Channel) →
    length ((system_after config log).channels link ch) ≤ capacity (64 / w) (sources_of (terms_at config link))
    config.trackers ch

-- ---- stalls

-- the outcome of a delivery
abbrev pub outcome_of_delivery : {w : ℕ} → Config → Log w → ℕ → Channel → Outcome w
outcome_of_delivery config log link ch =
    (stepped config (Deliver (record { 0 = link }) ch) (system_after config log)).outcome

-- the channel had no beat
abbrev pub is_emptiness : {w : ℕ} → Outcome w → Bool
is_emptiness outcome.Empty = true
is_emptiness _ = false

-- the first beat of the channel was stalled
abbrev pub is_stall : {w : ℕ} → Outcome w → Bool
is_stall outcome.Stalled = true
is_stall _ = false

-- a Release of the block by the client is pending
abbrev pub IsReleasing : {w : ℕ} → ℕ → ℕ → Log w → Type 0
IsReleasing k block log = (source : ℕ) × (prune : Prune) × (started k Releases source log ≡ Some (Release block prune))

-- When a delivery moves this first beat of a channel: on A unless the manager must let it wait, on B unless a Release
-- of the block is pending, on the others always.
abbrev pub Moves : {w : ℕ} → Config → Log w → ℕ → Beat w → Type 0
Moves config log link (beat.A x) = is_movable config link channel.A (system_after config log) ≡ not
    (must_wait config (record { 0 = link }) (beat.A x) (system_after config log).manager.trace)
Moves config log link (beat.B x) = (is_movable config link channel.B (system_after config log) ≡ false) ↔ IsReleasing
    link (block_at x.address) log
Moves config log link x = is_movable config link (channel_of x) (system_after config log) ≡ true

-- The outcome of a delivery on a client's link: empty if the channel is, otherwise a stall or a move.
pub record IsExact {w : ℕ} (config : Config) (log : Log w) (link : ℕ) (ch : Channel) : Type 0 where
  pub empty : is_emptiness (outcome_of_delivery config log link ch) ≡ is_empty
      ((system_after config log).channels link ch)
  pub stalled : is_stall (outcome_of_delivery config log link ch) ≡ not
      (is_empty ((system_after config log).channels link ch)) && not
      (is_movable config link ch (system_after config log))
  pub moves : (x : Beat w) (rest : List (Beat w)) → (system_after config log).channels link ch ≡ x ∷ rest
      → Moves config log link x

-- each delivery on a client's link is exactly so
abbrev pub Stalls : ℕ → Type 0
Stalls w = (config : Config) (log : Log w) → IsGiven config log → (link : ℕ) (ch : Channel)
    → is_client config link ≡ true → IsExact config log link ch
