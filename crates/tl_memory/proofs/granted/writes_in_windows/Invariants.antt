use Rattle.std.proofs.Common.{◌≡◌, take}
use Rattle.tl_memory.specs.code.Writers.{writes_windowed}
use Rattle.tl_memory.proofs.granted.writes_in_windows.Given as goal

abbrev pub invariant-loop-access : goal.invariant-loop-access
invariant-loop-access g l = l.writes.items ≡ writes_windowed (take l.access-index l.accesses)
