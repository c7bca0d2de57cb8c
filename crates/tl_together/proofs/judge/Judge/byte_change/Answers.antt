use Rattle.std.proofs.Common.{refl}
use Rattle.tl_memory.proofs.messages.LinkTables.{link-there}
use Rattle.tl_together.proofs.Following.{followed, one_more}
use Rattle.tl_together.proofs.judge.Judge.byte_change.Goals as goal

pub returns : goal.returns
returns g c = λ levels may t k fine.
    let o = k.open_knows refl in
    let lt = link-there _ levels (c.args.link, c.args.beat.now) t fine in
    c.byte_change.ensures levels t o.memory_is (followed _ levels may t o.monitor_is)
    (one_more _ levels may (c.args.link, c.args.beat.now) t o.monitor_is fine)
    (c.answered-asked.ensures levels may t o.monitor_is lt)
