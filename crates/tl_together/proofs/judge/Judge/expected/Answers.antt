use Rattle.std.proofs.Common.{refl}
use Rattle.tl_beat.specs.declared.beat.Beat.{Beat}
use Rattle.tl_together.proofs.Following.{followed, one_more}
use Rattle.tl_together.proofs.judge.Judge.expected.Goals as goal

pub returns : goal.returns
returns g c = λ levels may x t k fine change.
    let o = k.open_knows refl in
    c.expected.ensures levels x t o.memory_is (followed _ levels may t o.monitor_is)
    (one_more _ levels may (c.args.link, Beat.D x) t o.monitor_is fine) change
