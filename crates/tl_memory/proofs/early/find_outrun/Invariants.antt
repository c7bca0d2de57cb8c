use Rattle.std.proofs.Common.{◌≡◌, drop, find}
use Rattle.tl_memory.specs.code.Early.{is_outrun_of}
use Rattle.tl_memory.proofs.early.find_outrun.Given as goal

abbrev pub invariant-loop-access : goal.invariant-loop-access
invariant-loop-access l =
    find (is_outrun_of l.link.0 l.source) (drop l.access-index l.accesses)
    ≡ find (is_outrun_of l.link.0 l.source) l.accesses
