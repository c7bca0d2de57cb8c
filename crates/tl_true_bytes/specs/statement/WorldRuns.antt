-- That the beats of a world's links come of a run of one memory.
use Rattle.std.specs.Prelude.{ℕ, ◌≡◌, length}
use Rattle.tl_params.specs.declared.config.Config.{Config}
use Rattle.tl_coherence.specs.statement.Flow.{trace_of}
use Rattle.tl_coherence.specs.statement.Headline.{IsGiven}
use Rattle.tl_coherence.specs.statement.Log.{Log}
use Rattle.tl_coherence.specs.statement.OneMemory.{one_memory_after}
use Rattle.tl_one_memory.specs.statement.Run.{IsRun, Run, memory_in, trace_in}

-- a run of a memory that is zero at first, beside the beats of these links, which leaves the world's one memory
pub record HasRun {w : ℕ} (config : Config) (log : Log w) : Type 0 where
  pub run : Run w
  pub is_run : IsRun (length config.clients.items) (λ address. 0) run
  pub trace_is : trace_in run ≡ trace_of log
  pub memory_is : memory_in (λ address. 0) run ≡ (one_memory_after config log).memory

-- Whatever happens to a manager and its clients, there is such a run.
abbrev pub WorldRuns : ℕ → Type 0
WorldRuns w = (config : Config) (log : Log w) → IsGiven config log → HasRun config log
