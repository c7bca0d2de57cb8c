-- That the beats of a world's links, and the stores and loads of its clients, come of a run of one memory whose copies
-- are used rightly.
use Rattle.std.specs.Prelude.{ℕ, true, ◌≡◌, length}
use Rattle.tl_params.specs.declared.config.Config.{Config}
use Rattle.tl_coherence.specs.statement.Headline.{IsGiven}
use Rattle.tl_coherence.specs.statement.Log.{Log}
use Rattle.tl_coherence.specs.statement.OneMemory.{one_memory_after}
use Rattle.tl_coherence.specs.statement.Ranged.{AreRanged}
use Rattle.tl_one_memory.specs.statement.Run.{memory_in}
use Rattle.tl_commit_memory.specs.statement.CommitRun.{CommitRun, IsCommitRun, events_in, run_in}
use Rattle.tl_commit_memory.specs.statement.KeptCopies.{AreCopies}
use Rattle.tl_world_commits.specs.statement.Unbroken.{complete_of}
use Rattle.tl_world_commits.specs.statement.WorldEvents.{events_of}

-- a run of a memory that is zero at first, beside the beats and the commits, which leaves the world's one memory
pub record HasCommitRun {w : ℕ} (config : Config) (log : Log w) : Type 0 where
  pub run : CommitRun w
  pub is_run : IsCommitRun (length config.clients.items) (λ address. 0) run
  pub copies : AreCopies (complete_of true config) (length config.clients.items) (λ address. 0) run
  pub events_are : events_in run ≡ events_of log
  pub memory_is : memory_in (λ address. 0) (run_in run) ≡ (one_memory_after config log).memory

-- Whatever happens to a manager and its clients, which are given bytes, there is such a run.
abbrev pub WorldCommitRuns : ℕ → Type 0
WorldCommitRuns w =
    (config : Config) (log : Log w) → IsGiven config log → AreRanged log → HasCommitRun config log
