use Rattle.std.proofs.Common.{rules, true, false, refl}
use Rattle.std.specs.Prelude.{◌==◌}
use Rattle.std.proofs.lemmas.Bool.{eq-eqb, ne_eqb}
use Rattle.tl_monitor.proofs.Accesses.{answer-none, answer-rule}
use Rattle.tl_monitor.proofs.link_state.LinkState.begin_answer.Goals as goal

pub returns-in_default-clause-rule : goal.returns-in_default-clause-rule
returns-in_default-clause-rule g c = λ t keeps.
    answer-none c.args.self.now c.args.beat.now c.args.x.now c.args.liberties t keeps c.requires.first c.requires.same
    c.requires.access (search (rules, c.in_default.ensures c.args.liberties t keeps))

pub returns-then-not-answers-clause-rule : goal.returns-then-not-answers-clause-rule
returns-then-not-answers-clause-rule g c = λ t keeps.
    answer-rule c.args.self.now c.args.beat.now c.args.x.now c.in-Some.request c.args.liberties t false
    (c.args.x.now.size == c.in-Some.request.size) keeps c.requires.first c.requires.same c.requires.access
    (c.in-Some.ensures c.args.liberties t keeps) (search rules) refl

pub returns-then-x-request-clause-rule : goal.returns-then-x-request-clause-rule
returns-then-x-request-clause-rule g c = λ t keeps.
    answer-rule c.args.self.now c.args.beat.now c.args.x.now c.in-Some.request c.args.liberties t true false keeps c.requires.first
    c.requires.same c.requires.access (c.in-Some.ensures c.args.liberties t keeps) (search rules)
    (ne_eqb c.args.x.now.size c.in-Some.request.size c.if-x-request.true)

pub returns-clause-rule : goal.returns-clause-rule
returns-clause-rule g c = λ t keeps.
    answer-rule c.args.self.now c.args.beat.now c.args.x.now c.in-Some.request c.args.liberties t true true keeps c.requires.first
    c.requires.same c.requires.access (c.in-Some.ensures c.args.liberties t keeps) (search rules)
    (eq-eqb c.args.x.now.size c.in-Some.request.size c.if-x-request.false)
