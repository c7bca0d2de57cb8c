use Rattle.tl_memory.{specs.code.Writers.IsWatched, proofs.states.Keeping.IsDone}
use Rattle.tl_memory.proofs.accesses.watch.Given as goal

abbrev pub invariant-loop-n : goal.invariant-loop-n
invariant-loop-n g l = IsDone (IsWatched l.free l.moment) l.n l.initial.accesses.items l.accesses.items
