use Rattle.std.proofs.Common.{arith, inl}
use Rattle.tltool.proofs.cover.cover_files.Goals as goal

pub returns-in-Ok : goal.returns-in-Ok
returns-in-Ok g c =
    let counted = rw c.new-all.ensures.items at c.in-Ok.ensures.counted in
    inl (c.try_files.new.all.items, omega (arith, counted), rw c.deref.ensures.value at c.tell_over.ensures)
