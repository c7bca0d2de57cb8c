-- The trace of a world, with the stores and loads of its clients.
use Rattle.std.specs.Prelude.{ℕ, List, [], ◌∷◌}
use Rattle.tl_beat.specs.declared.beat.Link.{Link}
use Rattle.tl_rules.specs.statement.Conformance.{Trace}
use Rattle.tl_events.specs.declared.commit.Commit.{Commit}
use Rattle.tl_events.specs.declared.commit.Event.TheVariants as event
use Rattle.tl_commits.specs.statement.Events.{Events}
use Rattle.tl_coherence.specs.statement.Flow.{taken_at}
use Rattle.tl_coherence.specs.statement.Log.{Log}
use Rattle.tl_schedule.specs.statement.Commits.{commits_of}
use Rattle.tl_schedule.specs.statement.OutcomeLine.{link_of}

-- the events with these beats after them, of both the newest first
unfoldable pub with_beats : {w : ℕ} → Trace w → Events w → Events w
with_beats [] e = e
with_beats (x ∷ t) e = (x.0, event.Beat x.1) ∷ with_beats t e

-- the events with these commits of a link after them, the oldest of the commits first
unfoldable pub with_commits : {w : ℕ} → Link → List Commit → Events w → Events w
with_commits link [] e = e
with_commits link (x ∷ commits) e = with_commits link commits ((link, event.Commit x) ∷ e)

-- the events of a world: with each entry of its log the beat that was taken, and then the stores and loads
unfoldable pub events_of : {w : ℕ} → Log w → Events w
events_of [] = []
events_of (x ∷ log) =
    with_commits (link_of x.0) (commits_of log x.0 x.1) (with_beats (taken_at x.0 x.1) (events_of log))
