use Rattle.std.proofs.Common.{rules}
use Rattle.tl_reasons.proofs.Explaining.{explained}
use Rattle.tl_reasons.proofs.explain.explain_order.Goals as goal

pub returns-clause-ok : goal.returns-clause-ok
returns-clause-ok g c =
    explained c.args.allow _ _ c.in_ok-replay.replay c.args.rule c.args.found.now.good c.in-Ok.field-0-0 c.in-Ok.beat
    c.find_reason_under.result c.in-Some.reason c.in_ok-number.number
    c.args.out.now.items c.append_front.new.out.items c.extend_from_slice.new.self.items c.tell.new.out.items
    c.in_ok-replay.ensures.ok c.in_ok-replay.ensures.good c.in_ok-replay.ensures.allowed (rw c.line-line.ensures at c.in-Ok.ensures.spelled)
    (λ t link. c.find_reason_under.ensures.told c.in_ok-replay.replay.may t link)
    c.in-Some.is c.in_ok-number.ensures.number c.requires.empty
    (c.in_ok-append_front.ensures _ _ c.in-Ok.ensures.spelled) (search rules)
