use Rattle.std.proofs.Common.{refl, sym, ◌∙◌}
use Rattle.tl_partner.proofs.Offering.{held-waits, waits-as}
use Rattle.tl_partner.proofs.partner.Partner.hold_back.Goals as goal

pub returns-then-is_waiting-clause-after : goal.returns-then-is_waiting-clause-after
returns-then-is_waiting-clause-after g c = λ config e k.
    rw (held-waits _ (sym (waits-as _ _ _ c.is_waiting.ensures (c.judge-judged.ensures config e.manager k.knows))
    ∙ c.if-is_waiting.true)) k

pub returns-clause-answer : goal.returns-clause-answer
returns-clause-answer g c = λ config e k.
    let j = c.judge-judged.ensures config e.manager k.knows in
    rw (c.rule_held_back.ensures _ j (sym (waits-as _ _ _ c.is_waiting.ensures j) ∙ c.if-is_waiting.false)) refl

pub returns-clause-after : goal.returns-clause-after
returns-clause-after g c = λ config e k.
    let j = c.judge-judged.ensures config e.manager k.knows in
    rw (c.rule_held_back.ensures _ j (sym (waits-as _ _ _ c.is_waiting.ensures j) ∙ c.if-is_waiting.false))
    (record { knows = c.close.ensures config e.manager k.knows; same = k.same; count = k.count })
