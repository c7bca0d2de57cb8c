use Rattle.std.proofs.Common.{◌≡◌, ◌+◌, ◌-◌, arith, rules, None}
use Rattle.tl_explain.proofs.Waiting.{told-all, told-next, told-none}
use Rattle.tl_explain.proofs.ledger.Ledger.append_oldest.Goals as goal

pub returns-in_default : goal.returns-in_default
returns-in_default g c =
    let none : c.next.result ≡ None = search rules in
    c.loop.invariant c.loop.out.items
    (told-none (g.X.Wording.says c.args.wording.now) (20 - c.loop.counter) (20 - (c.loop.counter + 1))
    c.args.self.now.pending.items c.loop.after
    c.loop.out.items (omega (arith, c.loop-test.true)) (rw none at c.next.ensures))

pub loop-preserved : goal.loop-preserved
loop-preserved g c = λ new told.
    c.loop.invariant new
    (told-next (g.X.Wording.says c.args.wording.now) (20 - c.loop.counter) (20 - (c.loop.counter + 1))
    c.args.self.now.pending.items c.loop.after
    c.in-Some.pending c.loop.out.items c.append.new.out.items new (omega (arith, c.loop-test.true))
    (rw c.in-Some.is at c.next.ensures) c.in_ok-append.ensures told)

pub returns : goal.returns
returns g c =
    c.loop.invariant c.loop.out.items
    (told-all (g.X.Wording.says c.args.wording.now) (20 - c.loop.counter) c.args.self.now.pending.items c.loop.after
    c.loop.out.items
    (omega (arith, c.loop-test.false)))
