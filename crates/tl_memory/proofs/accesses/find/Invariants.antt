use Rattle.std.proofs.Common.{◌≡◌, drop, find}
use Rattle.tl_memory.specs.code.Writers.{is_named}
use Rattle.tl_memory.proofs.accesses.find.Given as goal

abbrev pub invariant-loop-access : goal.invariant-loop-access
invariant-loop-access g l =
    find (is_named l.link.0 l.source) (drop l.access-index l.accesses) ≡ find (is_named l.link.0 l.source) l.accesses
