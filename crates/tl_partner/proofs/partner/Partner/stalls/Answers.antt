use Rattle.std.proofs.Common.{sym, ◌∙◌}
use Rattle.tl_partner.proofs.Offering.{waits-as, stalls-cleaning, stalls-held, stalls-lenient}
use Rattle.tl_partner.proofs.partner.Partner.stalls.Goals as goal

pub returns-then-is_of_cleaning : goal.returns-then-is_of_cleaning
returns-then-is_of_cleaning g c = λ config e k.
    let of_cleaning = rw k.same at (sym c.is_of_cleaning.ensures ∙ c.if-is_of_cleaning.true) in
    stalls-cleaning c.args.self.now.lenient.terms config c.args.link c.args.channel
    c.args.beat.now e of_cleaning

pub returns-then-asks_for_cleaned : goal.returns-then-asks_for_cleaned
returns-then-asks_for_cleaned g c = λ config e k.
    let of_cleaning = rw k.same at (sym c.is_of_cleaning.ensures ∙ c.if-is_of_cleaning.false) in
    let asks = rw k.same at (sym c.asks_for_cleaned.ensures ∙ c.if-asks_for_cleaned.true) in
    waits-as _ _ _ c.is_waiting.ensures (c.judge.ensures config e.manager k.knows) ∙ stalls-held c.args.self.now.lenient.terms config c.args.link c.args.channel
    c.args.beat.now e of_cleaning asks

pub returns : goal.returns
returns g c = λ config e k.
    let of_cleaning = rw k.same at (sym c.is_of_cleaning.ensures ∙ c.if-is_of_cleaning.false) in
    let asks = rw k.same at (sym c.asks_for_cleaned.ensures ∙ c.if-asks_for_cleaned.false) in
    c.stalls.ensures config e.manager k.knows ∙ stalls-lenient c.args.self.now.lenient.terms config c.args.link c.args.channel
    c.args.beat.now e of_cleaning asks
