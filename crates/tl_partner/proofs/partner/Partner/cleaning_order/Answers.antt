use Rattle.std.proofs.lemmas.Bool.{not-true}
use Rattle.std.proofs.Common.{sym, ◌∙◌}
use Rattle.tl_partner.proofs.Taking.{order-breaks, order-goes, part-breaks, part-goes}
use Rattle.tl_partner.specs.statement.Granting.{granted}
use Rattle.tl_partner.proofs.partner.Partner.cleaning_order.Goals as goal

pub returns-in-Err : goal.returns-in-Err
returns-in-Err g c = λ config e k. order-breaks (granted c.args.self.now.lenient.terms) c.args.link c.args.beat.now
    c.args.cleaning.now e.trace (not-true _ (sym c.has_begun.ensures ∙ c.if-not-has_begun.false))
    (part-breaks c.args.beat.now c.args.cleaning.now c.in-Err.field-0 c.in-Err.ensures)

pub returns-in-Ok : goal.returns-in-Ok
returns-in-Ok g c = λ config e k. order-goes (granted c.args.self.now.lenient.terms) c.args.link c.args.beat.now
    c.args.cleaning.now e.trace (not-true _ (sym c.has_begun.ensures ∙ c.if-not-has_begun.false))
    (part-goes c.args.beat.now c.args.cleaning.now c.in-Ok.field-0 c.in-Ok.ensures)
