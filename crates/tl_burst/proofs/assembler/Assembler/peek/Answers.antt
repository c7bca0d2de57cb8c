use Rattle.std.proofs.Common.{sym, ◌∙◌, arith, true, false}
use Rattle.std.proofs.lemmas.Bool.{eq-eqb, ne_eqb}
use Rattle.tl_burst.proofs.Begun.{part-later, part-refused}
use Rattle.tl_burst.proofs.assembler.Assembler.peek.Goals as goal

pub returns-then-not-continues : goal.returns-then-not-continues
returns-then-not-continues g c =
    sym (part-refused c.self.inside.message c.args.self.now c.args.beat.now c.self.inside.taken c.self.view_is
    (omega arith)
    (sym c.continues.ensures ∙ c.if-not-continues.true))

pub returns-then-last-2 : goal.returns-then-last-2
returns-then-last-2 g c =
    sym (part-later c.self.inside.message c.args.self.now c.args.beat.now c.self.inside.taken c.burst_length.result true
    c.self.view_is (omega arith) c.burst_length.ensures
    (eq-eqb _ _ c.if-last-2.true) (sym c.continues.ensures ∙ c.if-not-continues.false))

pub returns-else-last-2 : goal.returns-else-last-2
returns-else-last-2 g c =
    sym (part-later c.self.inside.message c.args.self.now c.args.beat.now c.self.inside.taken c.burst_length.result
    false c.self.view_is (omega arith) c.burst_length.ensures
    (ne_eqb _ _ c.if-last-2.false) (sym c.continues.ensures ∙ c.if-not-continues.false))
