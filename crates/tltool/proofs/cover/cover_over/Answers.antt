use Rattle.std.proofs.Common.{inl}
use Rattle.tltool.proofs.cover.cover_over.Goals as goal

pub returns-in-Ok : goal.returns-in-Ok
returns-in-Ok g c = inl (
  c.try_over.new.all.items,
  rw c.new-all.ensures.items at c.in-Ok.ensures.tried,
  rw c.deref.ensures.value at c.tell_over.ensures,
)
