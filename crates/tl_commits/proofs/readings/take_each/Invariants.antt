use Rattle.tl_commits.specs.code.Reading.{IsTakenBy}
use Rattle.tl_memory.proofs.states.Keeping.{IsDone}
use Rattle.tl_commits.proofs.readings.take_each.Given as goal

abbrev pub invariant-loop-n : goal.invariant-loop-n
invariant-loop-n g l = IsDone (IsTakenBy l.judge l.table l.link l.beat l.shown) l.n l.initial.readings.items l.readings.items
