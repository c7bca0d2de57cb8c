-- The state of a judge of beats and commits after the events of a trace.
use Rattle.std.specs.Prelude.{false, List, [], ◌∷◌, ◌≡◌, length, Option, Some, None, Result, Ok, Err, ⊤, ℕ}
use Rattle.tl_beat.specs.declared.beat.Link.{Link}
use Rattle.tl_params.specs.declared.level.Level.{Level}
use Rattle.tl_params.specs.declared.liberties.Liberties.{Liberties}
use Rattle.tl_params.specs.statement.Config.{IsCount}
use Rattle.tl_together.specs.statement.Knows.{Knows}
use Rattle.tl_commits.specs.code.Granting.{KnowsGrants}
use Rattle.tl_commits.specs.code.Loading.{KnowsLoads}
use Rattle.tl_commits.specs.code.Reading.{KnowsReadings}
use Rattle.tl_commits.specs.code.ValueTable.{KnowsTable}
use Rattle.tl_events.specs.declared.commit.Event.{Event}
use Rattle.tl_events.specs.declared.commit.Event.TheVariants as event
use Rattle.tl_commits.specs.declared.fault.CommitFault.{CommitFault}
use Rattle.tl_commits.specs.declared.fault.CommitFault.TheVariants as fault
use Rattle.tl_commits.specs.declared.judge.CommitJudge.{CommitJudge}
use Rattle.tl_commits.specs.declared.rule.CommitBreach.{CommitBreach}
use Rattle.tl_events.specs.statement.CommitLine.{IsCommit}
use Rattle.tl_commits.specs.statement.Completeness.{Completeness}
use Rattle.tl_commits.specs.statement.Events.{Events, beats_of}

-- the judge has these levels, links with all their stores, and liberties, and the state that these rules need after the
-- events, the newest first
pub record KnowsCommits {w : ℕ} (j : CommitJudge w) (levels : List Level) (complete : Completeness) (l : Liberties)
    (e : Events w) : Type 0 where
  pub judge_is : Knows j.judge levels l (beats_of e) false
  pub levels_are : j.levels.items ≡ levels
  pub complete_are : j.complete.items ≡ complete.stores
  pub loads_are : KnowsLoads j.loads.items complete (length levels) e
  pub values_are : KnowsTable j.values complete (length levels) e
  pub grants_are : KnowsGrants j.grants.items complete (length levels) e
  pub readings_are : KnowsReadings j.readings.items complete (length levels) e

-- a new judge, or the reason why there is none
abbrev pub IsNew : {w : ℕ} → List Level → Completeness → Liberties → Result (CommitJudge w) CommitFault → Type 0
IsNew levels complete l (Ok j) = IsCount (length levels) × KnowsCommits j levels complete l []
IsNew levels complete l (Err fault.Levels) = ¬ IsCount (length levels)
IsNew levels complete l (Err fault.Memory) = IsCount (length levels)
IsNew levels complete l (Err _) = ⊥

-- a commit is of a piece that a line can spell
abbrev pub IsEvent : {w : ℕ} → Event w → Type 0
IsEvent (event.Beat x) = ⊤
IsEvent (event.Commit x) = IsCommit x

-- the answer to an event with this breach, or with none; Memory may be the answer in any case
abbrev pub Answers : Option CommitBreach → Result ⊤ CommitFault → Type 0
Answers breach (Ok u) = breach ≡ None
Answers breach (Err (fault.Broken found)) = breach ≡ Some found
Answers breach (Err fault.Memory) = ⊤
Answers breach (Err fault.Levels) = ⊥

-- the trace after an answer: only an event that was taken is added
abbrev pub recorded_after : {w : ℕ} → Result ⊤ CommitFault → Link × Event w → Events w → Events w
recorded_after (Ok u) x e = x ∷ e
recorded_after (Err found) x e = e
