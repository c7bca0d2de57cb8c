use Rattle.tl_commits.specs.code.Loading.{IsRenewed}
use Rattle.tl_memory.proofs.states.Keeping.{IsDone}
use Rattle.tl_commits.proofs.renewing.renew.Given as goal

abbrev pub invariant-loop-n : goal.invariant-loop-n
invariant-loop-n g l = IsDone (IsRenewed l.judge l.table l.complete.items) l.n l.initial.loads.items l.loads.items
