use Rattle.std.proofs.Common.{refl, sym, ◌∙◌}
use Rattle.std.proofs.lemmas.Bool.{eq-eqb, ne_eqb}
use Rattle.tl_rules.proofs.Open.{answered, request-fields-under}
use Rattle.tl_rules.proofs.order.broken_answer.Goals as goal

pub returns-then-not-answers : goal.returns-then-not-answers
returns-then-not-answers g c = λ t k.
    sym (answered c.args.x.now t c.args.liberties c.in-Some.request c.requires (c.in-Some.ensures c.args.liberties t k)
    ∙ rw (sym c.answers.ensures ∙ c.if-not-answers.true) refl)

pub returns-then-x-request : goal.returns-then-x-request
returns-then-x-request g c = λ t k.
    sym (answered c.args.x.now t c.args.liberties c.in-Some.request c.requires (c.in-Some.ensures c.args.liberties t k)
    ∙ rw (
      sym c.answers.ensures ∙ c.if-not-answers.false,
      ne_eqb c.args.x.now.size c.in-Some.request.size
          c.if-x-request.true,
    ) refl)

pub returns-then-not-is_grant : goal.returns-then-not-is_grant
returns-then-not-is_grant g c = λ t k.
    sym (answered c.args.x.now t c.args.liberties c.in-Some.request c.requires (c.in-Some.ensures c.args.liberties t k)
    ∙ rw (
      sym c.answers.ensures ∙ c.if-not-answers.false,
      eq-eqb c.args.x.now.size c.in-Some.request.size
          c.if-x-request.false,
      sym c.is_grant.ensures ∙ c.if-not-is_grant.true,
    ) refl)

pub returns-then-misgrants : goal.returns-then-misgrants
returns-then-misgrants g c = λ t k.
    let fields = request-fields-under c.args.liberties c.args.x.now.source t c.in-Some.request (c.in-Some.ensures c.args.liberties t k) in
    sym (answered c.args.x.now t c.args.liberties c.in-Some.request c.requires (c.in-Some.ensures c.args.liberties t k)
    ∙ rw (
      sym c.answers.ensures ∙ c.if-not-answers.false,
      eq-eqb c.args.x.now.size c.in-Some.request.size c.if-x-request.false,
      sym c.is_grant.ensures
          ∙ c.if-not-is_grant.false,
      sym (c.misgrants.ensures t k _ fields) ∙ c.if-misgrants.true,
    ) refl)

pub returns-then-is_pending : goal.returns-then-is_pending
returns-then-is_pending g c = λ t k.
    let fields = request-fields-under c.args.liberties c.args.x.now.source t c.in-Some.request (c.in-Some.ensures c.args.liberties t k) in
    sym (answered c.args.x.now t c.args.liberties c.in-Some.request c.requires (c.in-Some.ensures c.args.liberties t k)
    ∙ rw (
      sym c.answers.ensures ∙ c.if-not-answers.false,
      eq-eqb c.args.x.now.size c.in-Some.request.size c.if-x-request.false,
      sym c.is_grant.ensures
          ∙ c.if-not-is_grant.false,
      sym (c.misgrants.ensures t k _ fields) ∙ c.if-misgrants.false,
      sym (c.is_pending.ensures c.args.liberties t k) ∙ c.if-is_pending.true,
    ) refl)

pub returns : goal.returns
returns g c = λ t k.
    let fields = request-fields-under c.args.liberties c.args.x.now.source t c.in-Some.request (c.in-Some.ensures c.args.liberties t k) in
    sym (answered c.args.x.now t c.args.liberties c.in-Some.request c.requires (c.in-Some.ensures c.args.liberties t k)
    ∙ rw (
      sym c.answers.ensures ∙ c.if-not-answers.false,
      eq-eqb c.args.x.now.size c.in-Some.request.size c.if-x-request.false,
      sym c.is_grant.ensures
          ∙ c.if-not-is_grant.false,
      sym (c.misgrants.ensures t k _ fields) ∙ c.if-misgrants.false,
      sym (c.is_pending.ensures c.args.liberties t k) ∙ c.if-is_pending.false,
    )
    refl)
