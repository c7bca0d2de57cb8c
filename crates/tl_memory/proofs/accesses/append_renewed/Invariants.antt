use Rattle.std.proofs.Common.{◌≡◌, ◌++◌, List, take}
use Rattle.tl_memory.specs.code.Writers.{AreRenewed, found_by, staying}
use Rattle.tl_memory.specs.declared.pending.PendingAccess.{PendingAccess}
use Rattle.tl_memory.proofs.accesses.append_renewed.Given as goal

abbrev pub invariant-loop-access : goal.invariant-loop-access
invariant-loop-access g l =
    (more : List (PendingAccess g.row.W)) × (l.copies.items ≡ l.initial.copies.items ++ more)
    × AreRenewed (found_by l.free l.bytes l.accesses l.outrun) (staying l.gone (take l.access-index l.accesses)) more
