use Rattle.std.proofs.Common.{refl}
use Rattle.tl_client.proofs.plain_client.Offers.{offered-refused, answered-taken, knows-refused, knows-taken}
use Rattle.tl_client.proofs.plain.PlainAgent.offer_into.Goals as goal

pub returns-in-Err-clause-answer : goal.returns-in-Err-clause-answer
returns-in-Err-clause-answer g c =
    λ e k. rw (offered-refused c.args.self.now e c.args.channel c.args.beat.now c.in-Err.rule k
    (c.in-Err.ensures.rule e k)) refl

pub returns-in-Err-clause-after : goal.returns-in-Err-clause-after
returns-in-Err-clause-after g c = λ e k. knows-refused c.args.self.now _ e c.args.channel c.args.beat.now c.in-Err.rule
    k (c.in-Err.ensures.rule e k) refl refl refl

pub returns-in-Ok-clause-answer : goal.returns-in-Ok-clause-answer
returns-in-Ok-clause-answer g c =
    λ e k. answered-taken c.args.self.now e c.args.channel c.args.beat.now _ _ k (c.in-Ok.ensures.rule e k)
    c.take.ensures.verdict c.take.ensures.message

pub returns-in-Ok-clause-after : goal.returns-in-Ok-clause-after
returns-in-Ok-clause-after g c =
    λ e k. knows-taken c.args.self.now _ e c.args.channel c.args.beat.now k (c.in-Ok.ensures.rule e k)
    c.take.ensures.closed c.take.ensures.responses c.take.ensures.requests
