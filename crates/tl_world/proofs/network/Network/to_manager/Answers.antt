use Rattle.std.proofs.Common.{refl, rules}
use Rattle.tl_burst.specs.statement.Written.{written}
use Rattle.tl_manager.specs.code.Answers.{sent_of}
use Rattle.tl_manager.specs.code.Outbox.{messages_of}
use Rattle.tl_world.proofs.Moving.{manager-moved}
use Rattle.tl_world.proofs.Stepping.{first-brought, steps-empty, manager-refused, manager-stayed, manager-sent}
use Rattle.tl_world.proofs.network.Network.to_manager.Goals as goal

pub returns-in_default : goal.returns-in_default
returns-in_default g c = λ config s h down room.
    steps-empty g.A.Agent.represents g.A.Agent.terms g.D.Directory.perm_of config c.args.self.now s c.args.link
    c.args.channel h c.requires.inside c.in_default.ensures.there

pub returns-in-Err : goal.returns-in-Err
returns-in-Err g c = λ config s h down room. rw c.refused.ensures (
    manager-refused g.A.Agent.represents g.A.Agent.terms g.D.Directory.perm_of config c.args.self.now _ s c.args.link
    c.args.channel c.in-Some.beat.now _ (sent_of (written c.offer_into.new.outbox c.offer_into.result)) h
    c.requires.inside
    (first-brought g.A.Agent.represents g.A.Agent.terms g.D.Directory.perm_of config c.args.self.now s c.args.link
    c.args.channel c.in-Some.beat.now h c.requires.inside c.in-Some.ensures.there) down refl
    (rw c.if-goes_on.ensures.unchanged at c.offer_into.ensures.answer)
    (rw c.if-goes_on.ensures.unchanged at c.offer_into.ensures.after) c.in-Err.field-0 (search rules) refl)

pub returns-in-Ok-false : goal.returns-in-Ok-false
returns-in-Ok-false g c = λ config s h down room.
    manager-stayed g.A.Agent.represents g.A.Agent.terms g.D.Directory.perm_of config c.args.self.now _ s c.args.link
    c.args.channel c.in-Some.beat.now _ (sent_of (written c.offer_into.new.outbox c.offer_into.result)) h
    c.requires.inside
    (first-brought g.A.Agent.represents g.A.Agent.terms g.D.Directory.perm_of config c.args.self.now s c.args.link
    c.args.channel c.in-Some.beat.now h c.requires.inside c.in-Some.ensures.there) down refl
    (rw c.if-goes_on.ensures.unchanged at c.offer_into.ensures.answer)
    (rw c.if-goes_on.ensures.unchanged at c.offer_into.ensures.after) (search rules) refl

pub returns-in-Ok-true : goal.returns-in-Ok-true
returns-in-Ok-true g c = λ config s h down room.
    manager-sent g.A.Agent.represents g.A.Agent.terms g.D.Directory.perm_of config c.args.self.now _ s c.args.link
    c.args.channel c.in-Some.beat.now _ (sent_of (written c.offer_into.new.outbox c.offer_into.result)) h
    c.requires.inside
    (first-brought g.A.Agent.represents g.A.Agent.terms g.D.Directory.perm_of config c.args.self.now s c.args.link
    c.args.channel c.in-Some.beat.now h c.requires.inside c.in-Some.ensures.there) down refl
    (rw c.if-goes_on.ensures.unchanged at c.offer_into.ensures.answer)
    (rw c.if-goes_on.ensures.unchanged at c.offer_into.ensures.after) c.drop_first-in-Ok-true.new.self
    (messages_of c.offer_into.new.outbox)
    (search rules) c.drop_first-in-Ok-true.ensures.kept c.send_out.ensures.kept c.drop_first-in-Ok-true.ensures.moved c.send_out.ensures.moved
    room

pub returns-then-goes_on : goal.returns-then-goes_on
returns-then-goes_on g c = λ config s h down room.
    manager-moved g.A.Agent.represents g.A.Agent.terms g.D.Directory.perm_of config c.args.self.now _ s c.args.link
    c.args.channel c.in-Some.beat.now _ h c.requires.inside
    (first-brought g.A.Agent.represents g.A.Agent.terms g.D.Directory.perm_of config c.args.self.now s c.args.link
    c.args.channel c.in-Some.beat.now h c.requires.inside c.in-Some.ensures.there) c.drop_first.ensures.kept
    c.drop_first.ensures.moved room down refl c.if-goes_on.ensures.answer c.if-goes_on.ensures.after
