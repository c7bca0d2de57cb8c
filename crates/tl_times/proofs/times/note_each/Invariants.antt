use Rattle.tl_memory.proofs.states.Keeping.{IsDone}
use Rattle.tl_times.specs.code.Timing.{IsNoted}
use Rattle.tl_times.proofs.times.note_each.Given as goal

abbrev pub invariant-loop-n : goal.invariant-loop-n
invariant-loop-n l = IsDone (IsNoted l.number l.time) l.n l.initial.pieces.items l.pieces.items
