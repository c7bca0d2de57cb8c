use Rattle.std.proofs.Common.{length, subst}
use Rattle.tl_memory.specs.code.Changing.{IsChange}
use Rattle.tl_memory.specs.statement.Links.{KeepsRules}
use Rattle.tl_together.proofs.Answered.{broken_beginning_is, broken_bytes_are, no_d}
use Rattle.tl_memory.proofs.messages.LinkTables.{link-there}
use Rattle.tl_together.proofs.judge.Judge.broken_memory.Goals as goal

pub returns-in_default : goal.returns-in_default
returns-in_default g c = λ levels may t k free fine change.
    no_d (length levels) c.args.link.0 c.args.beat.now t c.in_default.not-D

pub returns-in-None : goal.returns-in-None
returns-in-None g c = λ levels may t k free fine change.
    let link = c.args.link in
    let lt = link-there _ levels (link, c.args.beat.now) t fine in
    broken_bytes_are (length levels) link.0 c.args.beat.now c.in-D.x t c.broken_beginning.result c.broken_bytes.result
    c.in-D.is c.in-None.is (c.broken_beginning.ensures levels may t k free lt)
    (c.broken_bytes.ensures levels may t k (subst (λ y. KeepsRules may levels (link, y) t) c.in-D.is fine)
    (subst (λ y. IsChange c.args.change.now c.args.self.now.memory (length levels) (link, y) t) c.in-D.is change))

pub returns-in-Some : goal.returns-in-Some
returns-in-Some g c = λ levels may t k free fine change.
    let lt = link-there _ levels (c.args.link, c.args.beat.now) t fine in
    broken_beginning_is (length levels) c.args.link.0 c.args.beat.now c.in-D.x t c.broken_beginning.result
    c.in-Some.rule c.in-D.is c.in-Some.is (c.broken_beginning.ensures levels may t k free lt)
