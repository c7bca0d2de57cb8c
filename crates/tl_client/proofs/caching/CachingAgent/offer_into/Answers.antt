use Rattle.std.proofs.Common.{rules, sym}
use Rattle.tl_client.specs.code.KnowsCaching.{caching_terms}
use Rattle.tl_client.specs.statement.Answer.{told}
use Rattle.tl_client.proofs.caching_client.Judged.{knows-took, lawful}
use Rattle.tl_client.proofs.caching.CachingAgent.offer_into.Goals as goal

pub returns-in-Ok-false-clause-answer : goal.returns-in-Ok-false-clause-answer
returns-in-Ok-false-clause-answer g c = λ e k.
    let judged = lawful (caching_terms c.args.self.now) c.args.channel c.args.beat.now e _ (c.judge.ensures.judged e k)
    (search rules) in
    sym (knows-took c.args.self.now c.take.new.self c.args.channel c.args.beat.now e
    (told c.take.result c.take.new.bytes) k judged
    c.take.ensures.taken).0

pub returns-in-Ok-false-clause-after : goal.returns-in-Ok-false-clause-after
returns-in-Ok-false-clause-after g c = λ e k.
    let judged = lawful (caching_terms c.args.self.now) c.args.channel c.args.beat.now e _ (c.judge.ensures.judged e k)
    (search rules) in
    (knows-took c.args.self.now c.take.new.self c.args.channel c.args.beat.now e
    (told c.take.result c.take.new.bytes) k judged
    c.take.ensures.taken).1
