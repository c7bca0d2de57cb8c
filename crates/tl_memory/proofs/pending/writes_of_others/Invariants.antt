use Rattle.std.proofs.Common.{◌≡◌, take}
use Rattle.tl_memory.specs.code.Writers.{writes_but}
use Rattle.tl_memory.proofs.pending.writes_of_others.Given as goal

abbrev pub invariant-loop-access : goal.invariant-loop-access
invariant-loop-access g l = l.writes.items ≡ writes_but l.link.0 l.source (take l.access-index l.accesses)
