use Rattle.std.proofs.Common.{sym, ◌∙◌, ap}
use Rattle.tl_manager.specs.statement.Offer.{Refused}
use Rattle.tl_partner.proofs.Leniently.{offered-misnamed, offered-named}
use Rattle.tl_partner.proofs.lenient.Lenient.offer.Goals as goal

pub returns-then-is_misnamed-clause-answer : goal.returns-then-is_misnamed-clause-answer
returns-then-is_misnamed-clause-answer g c = λ config e k.
    rw (offered-misnamed c.args.self.now.terms config c.args.link c.args.channel c.args.beat.now e
    (sym c.is_misnamed.ensures ∙ c.if-is_misnamed.true))
    (ap (λ rule. Refused rule) (rw c.plain-plain.ensures at (c.misnamed_rule-rule.ensures config e k)))

pub returns-then-is_misnamed-clause-after : goal.returns-then-is_misnamed-clause-after
returns-then-is_misnamed-clause-after g c = λ config e k.
    rw (offered-misnamed c.args.self.now.terms config c.args.link c.args.channel c.args.beat.now e
    (sym c.is_misnamed.ensures ∙ c.if-is_misnamed.true)) (c.close.ensures config e k)

pub returns-clause-answer : goal.returns-clause-answer
returns-clause-answer g c = λ config e k.
    rw (
      offered-named c.args.self.now.terms config c.args.link c.args.channel c.args.beat.now e
          (sym c.is_misnamed.ensures ∙ c.if-is_misnamed.false),
      ← c.plain-plain.ensures,
    )
    (c.offer_plain.ensures.answer config e k)

pub returns-clause-after : goal.returns-clause-after
returns-clause-after g c = λ config e k.
    rw (
      offered-named c.args.self.now.terms config c.args.link c.args.channel c.args.beat.now e
          (sym c.is_misnamed.ensures ∙ c.if-is_misnamed.false),
      ← c.plain-plain.ensures,
    )
    (c.offer_plain.ensures.after config e k)
