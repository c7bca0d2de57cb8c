use Rattle.std.proofs.Common.{refl, rules}
use Rattle.tl_client.specs.statement.Answer.{message_of, told_by, verdict_of}
use Rattle.tl_world.proofs.Moving.{client-moved}
use Rattle.tl_world.proofs.Stepping.{first-brought, steps-empty, steps-refused, steps-stayed, steps-taken}
use Rattle.tl_world.proofs.network.Network.to_client.Goals as goal

pub returns-in_default : goal.returns-in_default
returns-in_default g c = λ config s h up room.
    steps-empty g.A.Agent.represents g.A.Agent.terms g.D.Directory.perm_of config c.args.self.now s c.args.link
    c.args.channel h c.requires.inside c.in_default.ensures.there

pub returns-then-stays : goal.returns-then-stays
returns-then-stays g c = λ config s h up room.
    steps-stayed g.A.Agent.represents g.A.Agent.terms g.D.Directory.perm_of config c.args.self.now _ s c.args.link
    c.args.channel c.in-Some.beat.now _ (told_by c.offer_at.result c.offer_at.new.bytes) h c.requires.inside
    (first-brought g.A.Agent.represents g.A.Agent.terms g.D.Directory.perm_of config c.args.self.now s c.args.link
    c.args.channel c.in-Some.beat.now h
    c.requires.inside c.in-Some.ensures.there) up (rw (c.from-client.ensures, c.if-goes_on_at.ensures.unchanged) at c.offer_at.ensures) refl
    (verdict_of c.in-Ok.answer c.offer_at.new.bytes)
    (message_of c.in-Ok.answer c.offer_at.new.bytes) (search rules) (search rules) refl

pub returns-in-Err : goal.returns-in-Err
returns-in-Err g c = λ config s h up room. rw c.refused.ensures (
    steps-refused g.A.Agent.represents g.A.Agent.terms g.D.Directory.perm_of config c.args.self.now _ s c.args.link
    c.args.channel c.in-Some.beat.now _ (told_by c.offer_at.result c.offer_at.new.bytes) h c.requires.inside
    (first-brought g.A.Agent.represents g.A.Agent.terms g.D.Directory.perm_of config c.args.self.now s c.args.link
    c.args.channel c.in-Some.beat.now h
    c.requires.inside c.in-Some.ensures.there) up (rw (c.from-client.ensures, c.if-goes_on_at.ensures.unchanged) at c.offer_at.ensures) refl
    c.in-Err.field-0 (search rules) refl)

pub returns-else-stays : goal.returns-else-stays
returns-else-stays g c = λ config s h up room.
    rw c.write_outcome.ensures
    (steps-taken g.A.Agent.represents g.A.Agent.terms g.D.Directory.perm_of config c.args.self.now _ s c.args.link
    c.args.channel c.in-Some.beat.now _ (told_by c.offer_at.result c.offer_at.new.bytes) h c.requires.inside
    (first-brought g.A.Agent.represents g.A.Agent.terms g.D.Directory.perm_of config c.args.self.now s c.args.link
    c.args.channel c.in-Some.beat.now h
    c.requires.inside c.in-Some.ensures.there) up (rw (c.from-client.ensures, c.if-goes_on_at.ensures.unchanged) at c.offer_at.ensures) refl
    c.drop_first-in-Ok.new.self (verdict_of c.in-Ok.answer c.offer_at.new.bytes)
    (message_of c.in-Ok.answer c.offer_at.new.bytes) (search rules)
    (search rules) c.drop_first-in-Ok.ensures.kept c.send_answer.ensures.kept c.drop_first-in-Ok.ensures.moved
    c.send_answer.ensures.moved room)

pub returns-then-goes_on_at : goal.returns-then-goes_on_at
returns-then-goes_on_at g c = λ config s h up room.
    client-moved g.A.Agent.represents g.A.Agent.terms g.D.Directory.perm_of config c.args.self.now _ s c.args.link
    c.args.channel c.in-Some.beat.now _ h c.requires.inside
    (first-brought g.A.Agent.represents g.A.Agent.terms g.D.Directory.perm_of config c.args.self.now s c.args.link
    c.args.channel c.in-Some.beat.now h c.requires.inside c.in-Some.ensures.there) c.drop_first.ensures.kept
    c.drop_first.ensures.moved room up (rw c.from-client.ensures at c.if-goes_on_at.ensures.taken) refl
