use Rattle.std.proofs.Common.{refl, ap}
use Rattle.tl_manager.specs.statement.Offer
use Rattle.tl_manager.proofs.calls.Offered.{offered-broken, offered-waits, offered-passes, manager-after}
use Rattle.tl_manager.proofs.manager.Manager.offer_into.Goals as goal

pub invariant_of-self-in-Ok-Passes : goal.invariant_of-self-in-Ok-Passes
invariant_of-self-in-Ok-Passes g c =
    manager-after g.D.Directory.perm_of g.D.Directory.blocks g.D.Directory.clients c.self.inside.state c.take.new.self _
    c.self.invariant
    (c.take.ensures.knows c.self.invariant.config c.self.invariant.end c.self.invariant.knows) c.take.ensures.blocks
    c.take.ensures.clients

pub returns-in-Err-clause-answer : goal.returns-in-Err-clause-answer
returns-in-Err-clause-answer g c = λ config e k. let inside =
    rw (← c.self.view_is) at k in rw (offered-broken config c.args.link c.args.channel c.args.beat.now e
    c.in-Err.rule (c.in-Err.ensures.judged config e inside)) refl

pub returns-in-Err-clause-after : goal.returns-in-Err-clause-after
returns-in-Err-clause-after g c = λ config e k. let inside =
    rw (← c.self.view_is) at k in rw (offered-broken config c.args.link c.args.channel c.args.beat.now e
    c.in-Err.rule (c.in-Err.ensures.judged config e inside)) (c.refuse.ensures.knows config e inside)

pub returns-in-Ok-Waits-clause-answer : goal.returns-in-Ok-Waits-clause-answer
returns-in-Ok-Waits-clause-answer g c = λ config e k. let inside =
    rw (← c.self.view_is) at k in rw (offered-waits config c.args.link c.args.channel c.args.beat.now e
    c.in-Ok-Waits.field-0 c.in-Ok-Waits.field-0-is (c.in-Ok-Waits.ensures.judged config e inside)) refl

pub returns-in-Ok-Waits-clause-after : goal.returns-in-Ok-Waits-clause-after
returns-in-Ok-Waits-clause-after g c = λ config e k. let inside =
    rw (← c.self.view_is) at k in rw (offered-waits config c.args.link c.args.channel c.args.beat.now e
    c.in-Ok-Waits.field-0 c.in-Ok-Waits.field-0-is (c.in-Ok-Waits.ensures.judged config e inside)) k

pub returns-in-Ok-Passes-clause-answer : goal.returns-in-Ok-Passes-clause-answer
returns-in-Ok-Passes-clause-answer g c = λ config e k.
    let inside = rw (← c.self.view_is) at k in
    rw (offered-passes config c.args.link c.args.channel c.args.beat.now e c.in-Ok-Passes.field-0
    c.in-Ok-Passes.field-0-is
    (c.in-Ok-Passes.ensures.judged config e inside))
    (ap (λ handed. Offer.Sent handed) (c.take.ensures.handed config e inside))

pub returns-in-Ok-Passes-clause-after : goal.returns-in-Ok-Passes-clause-after
returns-in-Ok-Passes-clause-after g c = λ config e k.
    let inside = rw (← c.self.view_is) at k in
    rw (offered-passes config c.args.link c.args.channel c.args.beat.now e c.in-Ok-Passes.field-0
    c.in-Ok-Passes.field-0-is
    (c.in-Ok-Passes.ensures.judged config e inside)) (c.take.ensures.knows config e inside)
