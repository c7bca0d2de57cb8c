use Rattle.std.proofs.Common.{sym, ◌∙◌}
use Rattle.tl_partner.proofs.Offering.{under-cleaning, under-held, under-lenient}
use Rattle.tl_partner.proofs.partner.Partner.offer.Goals as goal

pub returns-then-is_of_cleaning-clause-answer : goal.returns-then-is_of_cleaning-clause-answer
returns-then-is_of_cleaning-clause-answer g c = λ config e k.
    let of_cleaning = rw k.same at (sym c.is_of_cleaning.ensures ∙ c.if-is_of_cleaning.true) in
    rw (under-cleaning c.args.self.now.lenient.terms config c.args.link c.args.channel
    c.args.beat.now e of_cleaning) (c.offer_cleaning.ensures.answer config e k)

pub returns-then-is_of_cleaning-clause-after : goal.returns-then-is_of_cleaning-clause-after
returns-then-is_of_cleaning-clause-after g c = λ config e k.
    let of_cleaning = rw k.same at (sym c.is_of_cleaning.ensures ∙ c.if-is_of_cleaning.true) in
    rw (under-cleaning c.args.self.now.lenient.terms config c.args.link c.args.channel
    c.args.beat.now e of_cleaning) (c.offer_cleaning.ensures.after config e k)

pub returns-then-asks_for_cleaned-clause-answer : goal.returns-then-asks_for_cleaned-clause-answer
returns-then-asks_for_cleaned-clause-answer g c = λ config e k.
    let of_cleaning = rw k.same at (sym c.is_of_cleaning.ensures ∙ c.if-is_of_cleaning.false) in
    let asks = rw k.same at (sym c.asks_for_cleaned.ensures ∙ c.if-asks_for_cleaned.true) in
    rw (under-held c.args.self.now.lenient.terms config c.args.link c.args.channel
    c.args.beat.now e of_cleaning asks) (c.hold_back.ensures.answer config e k)

pub returns-then-asks_for_cleaned-clause-after : goal.returns-then-asks_for_cleaned-clause-after
returns-then-asks_for_cleaned-clause-after g c = λ config e k.
    let of_cleaning = rw k.same at (sym c.is_of_cleaning.ensures ∙ c.if-is_of_cleaning.false) in
    let asks = rw k.same at (sym c.asks_for_cleaned.ensures ∙ c.if-asks_for_cleaned.true) in
    rw (under-held c.args.self.now.lenient.terms config c.args.link c.args.channel
    c.args.beat.now e of_cleaning asks) (c.hold_back.ensures.after config e k)

pub returns-clause-answer : goal.returns-clause-answer
returns-clause-answer g c = λ config e k.
    let of_cleaning = rw k.same at (sym c.is_of_cleaning.ensures ∙ c.if-is_of_cleaning.false) in
    let asks = rw k.same at (sym c.asks_for_cleaned.ensures ∙ c.if-asks_for_cleaned.false) in
    rw (under-lenient c.args.self.now.lenient.terms config c.args.link c.args.channel
    c.args.beat.now e of_cleaning asks) (c.offer.ensures.answer config e.manager k.knows)

pub returns-clause-after : goal.returns-clause-after
returns-clause-after g c = λ config e k.
    let of_cleaning = rw k.same at (sym c.is_of_cleaning.ensures ∙ c.if-is_of_cleaning.false) in
    let asks = rw k.same at (sym c.asks_for_cleaned.ensures ∙ c.if-asks_for_cleaned.false) in
    rw (under-lenient c.args.self.now.lenient.terms config c.args.link c.args.channel
    c.args.beat.now e of_cleaning asks)
    (record { knows = c.offer.ensures.after config e.manager k.knows; same = k.same; count = k.count })
