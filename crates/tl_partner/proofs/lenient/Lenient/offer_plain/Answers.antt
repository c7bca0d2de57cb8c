use Rattle.std.proofs.Common.{sym, ◌∙◌}
use Rattle.tl_partner.proofs.Leniently.{plain-dropped, plain-kept}
use Rattle.tl_partner.proofs.lenient.Lenient.offer_plain.Goals as goal

pub returns-then-not-is_drop-clause-answer : goal.returns-then-not-is_drop-clause-answer
returns-then-not-is_drop-clause-answer g c = λ config e k.
    rw (plain-kept c.args.self.now.terms config c.args.link c.args.channel c.args.beat.now e
    (sym (c.is_drop.ensures config e k) ∙ c.if-not-is_drop.true)) (c.pass.ensures.answer config e k)

pub returns-then-not-is_drop-clause-after : goal.returns-then-not-is_drop-clause-after
returns-then-not-is_drop-clause-after g c = λ config e k.
    rw (plain-kept c.args.self.now.terms config c.args.link c.args.channel c.args.beat.now e
    (sym (c.is_drop.ensures config e k) ∙ c.if-not-is_drop.true)) (c.pass.ensures.after config e k)

pub returns-clause-answer : goal.returns-clause-answer
returns-clause-answer g c = λ config e k.
    rw (
      plain-dropped c.args.self.now.terms config c.args.link c.args.channel c.args.beat.now e
          (sym (c.is_drop.ensures config e k) ∙ c.if-not-is_drop.false)
          (sym (c.is_reporting.ensures config e k) ∙ c.if-is_reporting.false),
      ← c.drop_copy.ensures.terms,
      ←
          c.block_of.ensures.block,
    ) (c.pass-2.ensures.answer config _ (c.drop_copy.ensures.after config e k))

pub returns-clause-after : goal.returns-clause-after
returns-clause-after g c = λ config e k.
    rw (
      plain-dropped c.args.self.now.terms config c.args.link c.args.channel c.args.beat.now e
          (sym (c.is_drop.ensures config e k) ∙ c.if-not-is_drop.false)
          (sym (c.is_reporting.ensures config e k) ∙ c.if-is_reporting.false),
      ← c.block_of.ensures.block,
    )
    (c.pass-2.ensures.after config _ (c.drop_copy.ensures.after config e k))
