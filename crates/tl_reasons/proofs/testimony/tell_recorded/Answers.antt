use Rattle.tl_reasons.proofs.Hearing.{recorded-told}
use Rattle.tl_reasons.proofs.testimony.tell_recorded.Goals as goal

pub returns-clause-tells : goal.returns-clause-tells
returns-clause-tells g c = λ told.
    recorded-told c.args.witness.now c.in-Some.witness c.args.judge.now c.args.rule c.args.link c.args.x.now
    c.args.out.now.items c.tell.new.out.items c.in-Some.is c.in_ok-tell.ensures.grant c.in_ok-tell.ensures.access
    c.in_ok-tell.ensures.bytes
