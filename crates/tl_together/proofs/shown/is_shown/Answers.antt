use Rattle.std.proofs.Common.{refl, sym, ◌∙◌}
use Rattle.std.proofs.lemmas.Bool.{eq-eqb, ne_eqb}
use Rattle.tl_rules.specs.statement.Conformance.{on_link}
use Rattle.tl_together.proofs.Showing.{complete_is, own_shown, unshown}
use Rattle.tl_together.proofs.shown.is_shown.Goals as goal

pub returns-in_default : goal.returns-in_default
returns-in_default g c = λ levels may t k lt shows.
    unshown c.args.shown c.args.beat.now (on_link c.args.link.0 t) c.args.block shows (rw c.in_default.is refl)

pub returns-then-block-own : goal.returns-then-block-own
returns-then-block-own g c = λ levels may t k lt shows.
    unshown c.args.shown c.args.beat.now (on_link c.args.link.0 t) c.args.block shows
    (rw c.in-Some.is (ne_eqb c.args.block c.in-Some.own c.if-block-own.true))

pub returns : goal.returns
returns g c = λ levels may t k lt shows.
    complete_is levels c.args.link c.args.beat.now t c.begins.result lt (c.begins.ensures.under levels may _ _ k.knows)
    ∙ sym (own_shown c.args.shown c.args.beat.now (on_link c.args.link.0 t) c.args.block shows
    (rw c.in-Some.is (eq-eqb c.args.block c.in-Some.own c.if-block-own.false)))
