use Rattle.std.proofs.Common.{◌≡◌, ◌++◌, take}
use Rattle.tl_memory.specs.code.Writers.{writes_outrun}
use Rattle.tl_memory.proofs.pending.append_outrun.Given as goal

abbrev pub invariant-loop-access : goal.invariant-loop-access
invariant-loop-access l = l.writes.items ≡ l.initial.writes.items ++ writes_outrun (take l.access-index l.outrun)
