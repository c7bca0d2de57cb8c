-- What is known of a block in the cache of a link while the events of a trace are followed.
use Rattle.std.specs.Prelude.{◌≡◌, ◌+◌, ◌<◌, ◌∷◌, ℕ, false, List, length}
use Rattle.tl_beat.specs.declared.beat.Beat.{Beat}
use Rattle.tl_beat.specs.declared.beat.Link.{Link}
use Rattle.tl_beat.specs.declared.channel.Channel.{Channel}
use Rattle.tl_beat.specs.declared.channel.Channel.TheVariants as channel
use Rattle.tl_commits.specs.statement.Events.{Events, beats_of}
use Rattle.tl_events.specs.declared.commit.Event.{Event}
use Rattle.tl_events.specs.declared.commit.Event.TheVariants as event
use Rattle.tl_monitor.specs.statement.Knows.{KnowsUnder}
use Rattle.tl_params.specs.declared.level.Level.{Level}
use Rattle.tl_params.specs.declared.liberties.Liberties.{Liberties}
use Rattle.tl_commit_story.specs.code.Stored.{last_in}
use Rattle.tl_commit_story.specs.declared.cached.Cached.{Cached}
use Rattle.tl_commit_story.specs.declared.grounds.Grounds.{Grounds}
use Rattle.tl_commit_story.specs.declared.under_way.UnderWay.{UnderWay}
use Rattle.tl_commit_story.specs.statement.Cached.{begun_by, came, held_since, last_store}

-- the unfinished message on a channel of the link
pub record IsUnderWay {w : ℕ} (u : UnderWay) (ch : Channel) (levels : List Level) (c : Cached) (e : Events w) : Type 0 where
  pub came_is : u.came ≡ came ch c e
  pub begun_is : u.begun.items ≡ begun_by ch levels c e

-- all that is kept is what the events say
pub record KnowsGrounds {w : ℕ} (g : Grounds w) (may : Liberties) (levels : List Level) (e : Events w) : Type 0 where
  pub monitor_is : KnowsUnder g.monitor levels may (beats_of e) false
  pub since_is : g.since.items ≡ held_since may levels g.cached e
  pub granting_is : IsUnderWay g.granting channel.D levels g.cached e
  pub giving_is : IsUnderWay g.giving channel.C levels g.cached e
  pub stores_are : (place : ℕ) → place < 64 → last_in g.stores.last place ≡ last_store g.cached.block place e

-- only the messages under way have changed
pub record IsSameBut {w : ℕ} (old new : Grounds w) : Type 0 where
  pub cached_is : new.cached ≡ old.cached
  pub monitor_is : new.monitor ≡ old.monitor
  pub since_is : new.since ≡ old.since
  pub stores_are : new.stores ≡ old.stores

-- the messages of the link with one more beat, in the line of this number
abbrev pub FollowsBeat : {w : ℕ} → Grounds w → Grounds w → ℕ → Link → Beat w → Type 0
FollowsBeat {w} old new number link x =
    (may : Liberties) (levels : List Level) (e : Events w) → number ≡ length e + 2
    → KnowsUnder old.monitor levels may (beats_of e) false
    → (IsUnderWay old.granting channel.D levels old.cached e
    → IsUnderWay new.granting channel.D levels old.cached ((link, event.Beat x) ∷ e))
    × (IsUnderWay old.giving channel.C levels old.cached e
    → IsUnderWay new.giving channel.C levels old.cached ((link, event.Beat x) ∷ e))

-- one more event, in the line of this number
abbrev pub TakesEvent : {w : ℕ} → Grounds w → Grounds w → ℕ → Link → Event w → Type 0
TakesEvent {w} old new number link x =
    (may : Liberties) (levels : List Level) (e : Events w) → number ≡ length e + 2 → KnowsGrounds old may levels e
    → KnowsGrounds new may levels ((link, x) ∷ e)
