-- The beats of a world's events are those that were taken.
use Rattle.std.proofs.Common.{◌≡◌, ℕ, List, [], ◌∷◌, ◌++◌, refl, ◌∙◌, ap}
use Rattle.tl_beat.specs.declared.beat.Link.{Link}
use Rattle.tl_rules.specs.statement.Conformance.{Trace}
use Rattle.tl_events.specs.declared.commit.Commit.{Commit}
use Rattle.tl_events.specs.declared.commit.Event.TheVariants as event
use Rattle.tl_commits.specs.statement.Events.{Events}
unfoldable use Rattle.tl_commits.specs.statement.Events.{beats_of}
use Rattle.tl_coherence.specs.statement.Flow.{taken_at}
unfoldable use Rattle.tl_coherence.specs.statement.Flow.{trace_of}
use Rattle.tl_coherence.specs.statement.Log.{Log}
use Rattle.tl_schedule.specs.statement.Commits.{commits_of}
use Rattle.tl_schedule.specs.statement.OutcomeLine.{link_of}
unfoldable use Rattle.tl_world_commits.specs.statement.WorldEvents.{events_of, with_beats, with_commits}

pub with-beats : {w : ℕ} (t : Trace w) (e : Events w) → beats_of (with_beats t e) ≡ t ++ beats_of e
unfolding beats_of with_beats
with-beats [] e = refl
with-beats (x ∷ t) e = ap (λ u. x ∷ u) (with-beats t e)

with-commits : {w : ℕ} (link : Link) (commits : List Commit) (e : Events w)
    → beats_of (with_commits link commits e) ≡ beats_of e
unfolding beats_of with_commits
with-commits link [] e = refl
with-commits link (x ∷ commits) e = with-commits link commits ((link, event.Commit x) ∷ e)

pub events-beats : {w : ℕ} (log : Log w) → beats_of (events_of log) ≡ trace_of log
unfolding beats_of events_of trace_of
events-beats [] = refl
events-beats (x ∷ log) = with-commits (link_of x.0) (commits_of log x.0 x.1) _
    ∙ with-beats (taken_at x.0 x.1) (events_of log) ∙ ap (λ t. taken_at x.0 x.1 ++ t) (events-beats log)
