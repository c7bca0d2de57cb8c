use Rattle.tl_commits.specs.code.Loading.{IsRestarted}
use Rattle.tl_memory.proofs.states.Keeping.{IsDone}
use Rattle.tl_commits.proofs.loading.restart.Given as goal

abbrev pub invariant-loop-n : goal.invariant-loop-n
invariant-loop-n l = IsDone (IsRestarted l.link l.piece) l.n l.initial.loads.items l.loads.items
