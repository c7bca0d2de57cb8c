-- What a caller promises of all that has happened to a world.
use Rattle.std.specs.Prelude.{ℕ, true, not, ◌∷◌, ◌≡◌, ◌≤◌, ◌==◌, ◌&&◌, ◌/◌, reverse, length, Some, None, is_none}
use Rattle.tl_beat.specs.declared.beat.Beat.{Beat}
use Rattle.tl_beat.specs.declared.beat.Link.{Link}
use Rattle.tl_beat.specs.declared.channel.Channel.{Channel}
use Rattle.tl_burst.specs.statement.Part.{is_empty}
use Rattle.tl_params.specs.declared.config.Config.{Config}
use Rattle.tl_params.specs.declared.level.Level.{Level}
use Rattle.tl_params.specs.declared.perm.Perm.{Perm}
use Rattle.tl_rules.specs.statement.Conformance.{is_legal, first_fault}
use Rattle.tl_client.specs.declared.operation.Op.{Op}
use Rattle.tl_client.specs.declared.verdict.Finish.TheVariants.{Granted}
use Rattle.tl_client.specs.statement.Ask.{op_block}
use Rattle.tl_client.specs.statement.Endpoint.{held_at}
use Rattle.tl_manager.specs.statement.Offer.{level_of}
use Rattle.tl_coherence.specs.declared.event.Event.{Event}
use Rattle.tl_coherence.specs.declared.event.Event.TheVariants.{Deliver}
use Rattle.tl_coherence.specs.declared.event.Outcome.{Outcome}
use Rattle.tl_coherence.specs.declared.event.Outcome.TheVariants as outcome
use Rattle.tl_coherence.specs.statement.Coherent.{IsCoherent, started}
use Rattle.tl_coherence.specs.statement.Delivery.{IsExact, IsFifo, capacity, is_emptiness, is_stall, levels_of, sources_of}
use Rattle.tl_coherence.specs.statement.Draining.{IsDrained}
use Rattle.tl_coherence.specs.statement.Flow.{flow, trace_of}
use Rattle.tl_coherence.specs.statement.Headline.{Continues, IsTyped, IsUnrefused}
use Rattle.tl_coherence.specs.statement.Load.{outstanding}
use Rattle.tl_coherence.specs.statement.Log.{Log, IsLog, system_after}
use Rattle.tl_coherence.specs.statement.Machine.{Requests, Run, is_client}
use Rattle.tl_coherence.specs.statement.Movable.{drained, is_movable, next_delivery}
use Rattle.tl_coherence.specs.statement.OneMemory.{one_memory_after}
use Rattle.tl_coherence.specs.statement.System.{terms_at}

pub record Promised {w : ℕ} (config : Config) (log : Log w) : Type 0 where
  -- each outcome is the one that comes of its event
  pub outcomes : IsLog config log
  -- the outcomes are a run of the one-memory machine, and what comes next goes on with it
  pub run : Run config log (one_memory_after config log)
  pub continues : (x : Event w × Outcome w) → IsTyped x.0 → IsLog config (x ∷ log) → Continues config x log
  -- copies are coherent, with that memory
  pub coherent : IsCoherent (system_after config log) log (one_memory_after config log)
  -- no beat was refused
  pub unrefused : IsUnrefused (system_after config log)
  -- a delivery is next exactly while something is outstanding
  pub moving : is_none (next_delivery config (system_after config log)) ≡ (outstanding log == 0)
  -- channels lose nothing and keep order, and none holds more than it is made for
  pub carries : (link : ℕ) (ch : Channel) → IsFifo (system_after config log) log link ch
  pub channels : (link : ℕ) (ch : Channel) → length ((system_after config log).channels link ch) ≤ capacity (64 / w)
      (sources_of (terms_at config link)) config.trackers ch
  -- what was delivered on each link breaks no rule, and on all links at once it has no first fault
  pub legal : (link : ℕ) (l : Level) → level_of config link ≡ Some l
      → is_legal l config.profile (flow link log) ≡ true
  pub faultless : first_fault (levels_of config) config.profile (reverse (trace_of log)) ≡ None
  -- which deliveries are empty, which are stalled, and which move a beat
  pub exact : (link : ℕ) (ch : Channel) → is_client config link ≡ true → IsExact config log link ch

-- deliveries, each the next one, have ended what was outstanding after this log
abbrev pub EndsDrained : {w : ℕ} → Config → Log w → Type 0
EndsDrained config log = (count : ℕ) × IsDrained config log count × Promised config (drained config count log)

-- what comes of a delivery after a log
pub record Delivered {w : ℕ} (config : Config) (log : Log w) (link : Link) (ch : Channel) (o : Outcome w)
    : Type 0 where
  pub promised : Promised config ((Deliver link ch, o) ∷ log)
  -- on a client's link it is empty exactly where the channel holds no beat, and stalled exactly where it holds one and
  -- isn't movable
  pub empty : is_client config link.0 ≡ true → is_emptiness o ≡ is_empty
      ((system_after config log).channels link.0 ch)
  pub stalled : is_client config link.0 ≡ true → is_stall o ≡ not
      (is_empty ((system_after config log).channels link.0 ch)) && not
      (is_movable config link.0 ch (system_after config log))
  -- at a Grant the client holds what it is granted
  pub granted : (x : Beat w) (source : ℕ) (p : Perm) (op : Op w) → o ≡ outcome.Done x source (Granted p)
      → started link.0 Requests source log ≡ Some op
      → held_at ((system_after config ((Deliver link ch, o) ∷ log)).clients link.0) (op_block op) ≡ p
