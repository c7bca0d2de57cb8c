use Rattle.std.proofs.Common.{sym, ◌∙◌}
use Rattle.tl_client.proofs.plain_client.Past.{refused_in_order, judged_by_bits}
use Rattle.tl_client.proofs.plain.Plain.judge_order.Goals as goal

pub returns-in-Some-clause-rule : goal.returns-in-Some-clause-rule
returns-in-Some-clause-rule g c = λ e k.
    refused_in_order c.args.self.now e c.args.beat.now c.args.response _ c.in-Some.rule c.requires.response k
    c.requires.legal c.peek-part.ensures c.in-Some.ensures.rule

pub returns-then-is_spoiled-clause-rule : goal.returns-then-is_spoiled-clause-rule
returns-then-is_spoiled-clause-rule g c = λ e k.
    judged_by_bits c.args.self.now e c.args.beat.now c.args.response _ _ c.requires.response k c.requires.legal
    c.peek-part.ensures c.in_default.ensures.rule
    (sym c.if-is_spoiled.true ∙ c.is_spoiled.ensures)

pub returns-clause-rule : goal.returns-clause-rule
returns-clause-rule g c = λ e k.
    judged_by_bits c.args.self.now e c.args.beat.now c.args.response _ _ c.requires.response k c.requires.legal
    c.peek-part.ensures c.in_default.ensures.rule
    (sym c.if-is_spoiled.false ∙ c.is_spoiled.ensures)
