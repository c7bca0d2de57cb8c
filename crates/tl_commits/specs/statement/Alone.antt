-- Traces of beats alone are judged as by the rules of beats.
use Rattle.std.specs.Prelude.{ℕ, [], ◌≡◌, List, map, Option, Some, None}
use Rattle.tl_beat.specs.declared.beat.Beat.{Beat}
use Rattle.tl_beat.specs.declared.beat.Link.{Link}
use Rattle.tl_params.specs.declared.level.Level.{Level}
use Rattle.tl_params.specs.declared.liberties.Liberties.{Liberties}
use Rattle.tl_rules.specs.statement.Conformance.{Trace}
use Rattle.tl_together.specs.declared.breach.Breach.{Breach}
use Rattle.tl_together.specs.statement.Coherence.{broken_together, first_breach}
use Rattle.tl_events.specs.declared.commit.Event.TheVariants as event
use Rattle.tl_commits.specs.declared.rule.CommitBreach.{CommitBreach}
use Rattle.tl_commits.specs.declared.rule.CommitBreach.TheVariants.{OfBeats, OfCommits}
use Rattle.tl_commits.specs.statement.Completeness.{incomplete, with_stores}
use Rattle.tl_commits.specs.statement.Breaches.{broken_event, first_commit_breach}
use Rattle.tl_commits.specs.statement.Events.{Events}
use Rattle.std.specs.Prelude.{Bool}

-- the trace with these beats and no commits
abbrev pub alone : {w : ℕ} → Trace w → Events w
alone t = map (λ x. (x.0, event.Beat x.1)) t

-- the rule of beats that is broken, if one is
abbrev pub of_beats : Option CommitBreach → Option Breach
of_beats None = None
of_beats (Some (OfBeats breach)) = Some breach
of_beats (Some (OfCommits rule)) = None

-- a breach of a rule of beats, with its place
abbrev pub as_commits : Option (ℕ × Breach) → Option (ℕ × CommitBreach)
as_commits None = None
as_commits (Some (place, breach)) = Some (place, OfBeats breach)

-- If there are no commits, and the header says neither that a link's stores are all there nor that memory was zero, the
-- first breach is that of the beats.
abbrev pub JudgesAlone : ℕ → Type 0
JudgesAlone w = (levels : List Level) (l : Liberties) (t : Trace w)
    → first_commit_breach levels incomplete l (alone t) ≡ as_commits (first_breach levels l t)

-- Of whichever links it says so, if it doesn't say that memory was zero a beat breaks the same rule of beats.
abbrev pub JudgesBeats : ℕ → Type 0
JudgesBeats w = (levels : List Level) (stores : List Bool) (l : Liberties) (link : Link) (x : Beat w) (t : Trace w)
    → of_beats (broken_event levels (with_stores stores) l link (event.Beat x) (alone t)) ≡ broken_together levels l
    (link, x) t
