use Rattle.std.proofs.Common.{length, ap, sym, ◌∙◌}
use Rattle.std.specs.Prelude.{is_some}
use Rattle.tl_together.proofs.Answered.{no_response, asked_is, a_grant, an_access, another, denied_response}
use Rattle.tl_together.proofs.judge.Judge.broken_response.Goals as goal

pub returns-in_err-asked : goal.returns-in_err-asked
returns-in_err-asked g c = λ levels may t k free lt.
    c.from_residual.ensures ∙ no_response levels (length levels) c.args.link c.args.x.now t lt
    (sym c.in_err-asked.was ∙ c.request.ensures.under levels may t _ k.monitor_is.knows)

pub returns-then-x : goal.returns-then-x
returns-then-x g c = λ levels may t k free lt.
    denied_response (length levels) c.args.link.0 c.args.x.now t c.if-x.true

pub returns-then-is_grant : goal.returns-then-is_grant
returns-then-is_grant g c = λ levels may t k free lt.
    let asked = asked_is levels c.args.link c.args.x.now.source t c.in_ok-asked.asked lt
    (c.in_ok-asked.ensures.under levels may t _ k.monitor_is.knows) in
    a_grant (length levels) c.args.link.0 c.args.x.now t c.in_ok-asked.asked c.is_grant.result c.broken_grant.result
    asked c.if-x.false c.is_grant.ensures c.if-is_grant.true
    (c.broken_grant.ensures levels may t k free)

pub returns-then-not-is_access_ack : goal.returns-then-not-is_access_ack
returns-then-not-is_access_ack g c = λ levels may t k free lt.
    another (length levels) c.args.link.0 c.args.x.now t c.is_grant.result c.is_access_ack.result c.if-x.false
    c.is_grant.ensures c.if-is_grant.false
    c.is_access_ack.ensures c.if-not-is_access_ack.true

pub returns : goal.returns
returns g c = λ levels may t k free lt.
    let asked = asked_is levels c.args.link c.args.x.now.source t c.in_ok-asked.asked lt
    (c.in_ok-asked.ensures.under levels may t _ k.monitor_is.knows) in
    an_access (length levels) c.args.link.0 c.args.x.now t c.in_ok-asked.asked c.is_grant.result c.is_access_ack.result
    c.broken_access.result asked c.if-x.false
    c.is_grant.ensures c.if-is_grant.false c.is_access_ack.ensures c.if-not-is_access_ack.false
    (c.broken_access.ensures levels may t k lt (ap is_some asked))
