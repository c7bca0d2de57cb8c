-- That no event of a world breaks a rule for stores and loads.
use Rattle.std.specs.Prelude.{ℕ, Bool, [], ◌∷◌, ◌≡◌, None, length, map, ⊤}
use Rattle.tl_beat.specs.declared.beat.Link.{Link}
use Rattle.tl_params.specs.declared.config.Config.{Config}
use Rattle.tl_rules.specs.statement.Legality.{has_transfers}
use Rattle.tl_events.specs.declared.commit.Event.{Event}
use Rattle.tl_events.specs.declared.commit.Event.TheVariants as event
use Rattle.tl_commits.specs.statement.Breaches.{broken_by_core}
use Rattle.tl_commits.specs.statement.Commits.{broken_report}
use Rattle.tl_commits.specs.statement.Completeness.{Completeness}
use Rattle.tl_commits.specs.statement.Events.{Events}
use Rattle.tl_coherence.specs.statement.Delivery.{levels_of}
use Rattle.tl_coherence.specs.statement.Headline.{IsGiven}
use Rattle.tl_coherence.specs.statement.Log.{Log}
use Rattle.tl_coherence.specs.statement.Ranged.{AreRanged}
use Rattle.tl_world_commits.specs.statement.WorldEvents.{events_of}

-- All stores are in the trace of those links with a cache (`C+`), and its header may say that memory was zero.
abbrev pub complete_of : Bool → Config → Completeness
complete_of zero config = record {
  stores = map (λ client. has_transfers client.level) config.clients.items;
  zero = zero;
}

-- a beat after e doesn't break M7, and a store or a load breaks none of L1, M5 and M6
abbrev pub IsUnbroken : {w : ℕ} → Bool → Config → Link → Event w → Events w → Type 0
IsUnbroken zero config link (event.Beat x) e =
    broken_report (complete_of zero config) (length config.clients.items) link.0 x e ≡ None
IsUnbroken zero config link (event.Commit x) e =
    broken_by_core (levels_of config) (complete_of zero config) link x e ≡ None

-- so it is of all events, each after those before it
unfoldable pub AreUnbroken : {w : ℕ} → Bool → Config → Events w → Type 0
AreUnbroken zero config [] = ⊤
AreUnbroken zero config (x ∷ e) = IsUnbroken zero config x.0 x.1 e × AreUnbroken zero config e

-- so it is of the events of each world whose clients are given bytes, also if the header says that memory was zero
abbrev pub UnbrokenCommits : ℕ → Type 0
UnbrokenCommits w =
    (zero : Bool) (config : Config) (log : Log w) → IsGiven config log → AreRanged log → AreUnbroken zero config
    (events_of log)
