use Rattle.std.proofs.Common.{◌≡◌, ◌+◌, length, refl, rules}
use Rattle.tl_together.proofs.Judging.{next_moment, unnoted}
use Rattle.tl_memory.proofs.messages.LinkTables.{link-there}
use Rattle.tl_together.proofs.Following.{followed, one_more}
use Rattle.tl_together.proofs.judge.Judge.change.Goals as goal

pub returns-in-Ok-clause-knows : goal.returns-in-Ok-clause-knows
returns-in-Ok-clause-knows g c = λ levels may t closed k.
    unnoted c.args.self.now _ levels may t closed k refl refl refl refl refl refl c.change.ensures.known

pub returns-in-Ok-clause-change : goal.returns-in-Ok-clause-change
returns-in-Ok-clause-change g c = λ levels may t k fine.
    let o = k.open_knows refl in
    let lt = link-there _ levels (c.args.link, c.args.beat.now) t fine in
    let next_is : c.in-Some.next ≡ c.args.self.now.moment + 1 = search rules in
    let now = next_moment c.in-Some.next c.args.self.now.moment t next_is o.moment_is in
    c.in-Ok.ensures.change levels t o.memory_is (followed _ levels may t o.monitor_is)
    (one_more _ levels may (c.args.link, c.args.beat.now) t o.monitor_is fine)
    (c.answered-asked.ensures levels may t o.monitor_is lt) now

pub returns-in-Err-clause-knows : goal.returns-in-Err-clause-knows
returns-in-Err-clause-knows g c = λ levels may t closed k.
    unnoted c.args.self.now _ levels may t closed k refl refl refl refl refl refl c.change.ensures.known

pub returns-in-Ok-clause-free : goal.returns-in-Ok-clause-free
returns-in-Ok-clause-free g c = λ levels may t k.
    c.in-Ok.ensures.free (length levels) t (k.open_knows refl).memory_is
