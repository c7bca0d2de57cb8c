use Rattle.std.proofs.Common.{◌≡◌, ◌∙◌, refl, ap, false}
use Rattle.tl_manager.specs.statement.Offer.{open_level}
use Rattle.tl_partner.proofs.Offering.{breaks-by, passes-by, passes-unbroken, waits-by}
use Rattle.tl_partner.specs.statement.Cleaning.{cleaning_on}
use Rattle.tl_partner.specs.statement.Granting.{granted}
use Rattle.tl_burst.specs.statement.Messages.{breaks_burst}
use Rattle.tl_partner.specs.code.Cleanings.{cleaning_at}
use Rattle.tl_partner.proofs.partner.Partner.offer_cleaning.Goals as goal

pub returns-in-Err-clause-answer : goal.returns-in-Err-clause-answer
returns-in-Err-clause-answer g c = λ config e k.
    rw (breaks-by _ c.in-Err.rule (rw k.same at (c.in-Err.ensures.judged config e k))) refl

pub returns-in-Err-clause-after : goal.returns-in-Err-clause-after
returns-in-Err-clause-after g c = λ config e k.
    rw (breaks-by _ c.in-Err.rule (rw k.same at (c.in-Err.ensures.judged config e k)))
    (record { knows = c.close.ensures config e.manager k.knows; same = k.same; count = k.count })

pub returns-in-Ok-Waits-clause-answer : goal.returns-in-Ok-Waits-clause-answer
returns-in-Ok-Waits-clause-answer g c = λ config e k.
    let judged = rw (c.in-Ok-Waits.field-0-is, k.same) at (c.in-Ok-Waits.ensures.judged config e k) in
    rw (waits-by _ judged) refl

pub returns-in-Ok-Waits-clause-after : goal.returns-in-Ok-Waits-clause-after
returns-in-Ok-Waits-clause-after g c = λ config e k.
    let judged = rw (c.in-Ok-Waits.field-0-is, k.same) at (c.in-Ok-Waits.ensures.judged config e k) in
    rw (waits-by _ judged) k

pub returns-in-Ok-Passes-clause-answer : goal.returns-in-Ok-Passes-clause-answer
returns-in-Ok-Passes-clause-answer g c = λ config e k.
    let judged = rw (c.in-Ok-Passes.field-0-is, k.same) at (c.in-Ok-Passes.ensures.judged config e k) in
    let passes = passes-by _ judged in
    let goes : breaks_burst c.args.beat.now (cleaning_at c.args.self.now.cleanings.items c.args.link.0) ≡ false =
    ap (λ all. breaks_burst c.args.beat.now (cleaning_at all c.args.link.0)) k.same
    ∙ passes-unbroken (granted c.args.self.now.lenient.terms) config (open_level config c.args.link e.manager)
    c.args.link c.args.channel c.args.beat.now (cleaning_on c.args.link e) e.manager.trace passes in
    rw passes (c.take_cleaning.ensures.answer config e k goes)

pub returns-in-Ok-Passes-clause-after : goal.returns-in-Ok-Passes-clause-after
returns-in-Ok-Passes-clause-after g c = λ config e k.
    let judged = rw (c.in-Ok-Passes.field-0-is, k.same) at (c.in-Ok-Passes.ensures.judged config e k) in
    let passes = passes-by _ judged in
    let goes : breaks_burst c.args.beat.now (cleaning_at c.args.self.now.cleanings.items c.args.link.0) ≡ false =
    ap (λ all. breaks_burst c.args.beat.now (cleaning_at all c.args.link.0)) k.same
    ∙ passes-unbroken (granted c.args.self.now.lenient.terms) config (open_level config c.args.link e.manager)
    c.args.link c.args.channel c.args.beat.now (cleaning_on c.args.link e) e.manager.trace passes in
    rw passes (c.take_cleaning.ensures.after config e k goes)
