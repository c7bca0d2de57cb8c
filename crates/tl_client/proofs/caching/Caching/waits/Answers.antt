use Rattle.std.proofs.Common.{rules}
use Rattle.tl_client.proofs.caching_client.Past.{waits_known}
use Rattle.tl_client.proofs.caching.Caching.waits.Goals as goal

pub returns-then-is_probe : goal.returns-then-is_probe
returns-then-is_probe g c = λ e k. waits_known c.args.self.now e c.args.beat.now c.in-B.probe _ k c.in-B.is
    (search rules) (rw c.block_at.ensures at c.is_releasing.ensures)
