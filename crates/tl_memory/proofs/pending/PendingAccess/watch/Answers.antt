use Rattle.std.proofs.Common.{refl}
use Rattle.tl_memory.proofs.pending.PendingAccess.watch.Goals as goal

pub returns : goal.returns
returns g c = record { writer_is = refl; read_is = refl; windows_are = c.after-self.ensures g.row.W }
