use Rattle.std.proofs.Common.{◌≡◌, ◌++◌, take}
use Rattle.tl_memory.specs.code.Early.{outrun_but}
use Rattle.tl_memory.proofs.early.append_outrun_but.Given as goal

abbrev pub invariant-loop-access : goal.invariant-loop-access
invariant-loop-access l =
    l.left.items ≡ l.initial.left.items ++ outrun_but l.link.0 l.source (take l.access-index l.accesses)
