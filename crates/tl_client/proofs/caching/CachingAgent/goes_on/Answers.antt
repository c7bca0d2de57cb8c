use Rattle.tl_client.proofs.caching_client.Judged.{answer-middle, after-middle}
use Rattle.tl_client.proofs.caching.CachingAgent.goes_on.Goals as goal

pub returns-in-D-D-clause-answer : goal.returns-in-D-D-clause-answer
returns-in-D-D-clause-answer g c = answer-middle c.args.self.now c.grows.new.self c.args.channel c.args.beat.now
    c.in-D-D.response c.grows.result c.in-D-D.is-0 c.in-D-D.is-1 c.grows.ensures.live c.grows.ensures.lawful
    c.grows.ensures.clean c.grows.ensures.middle c.grows.ensures.goes

pub returns-in-D-D-clause-after : goal.returns-in-D-D-clause-after
returns-in-D-D-clause-after g c = after-middle c.args.self.now c.grows.new.self c.args.channel c.args.beat.now
    c.in-D-D.response c.grows.result c.in-D-D.is-0 c.in-D-D.is-1 c.grows.ensures.live c.grows.ensures.lawful
    c.grows.ensures.clean c.grows.ensures.middle c.grows.ensures.goes
