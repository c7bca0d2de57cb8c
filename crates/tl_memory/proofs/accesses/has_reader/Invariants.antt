use Rattle.std.proofs.Common.{◌≡◌, drop}
use Rattle.tl_memory.specs.code.Writers.{has_reader}
use Rattle.tl_memory.proofs.accesses.has_reader.Given as goal

abbrev pub invariant-loop-access : goal.invariant-loop-access
invariant-loop-access g l = has_reader (drop l.access-index l.accesses) ≡ has_reader l.accesses
