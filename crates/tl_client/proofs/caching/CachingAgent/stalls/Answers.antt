use Rattle.std.proofs.Common.{rules, sym, ◌∙◌}
use Rattle.tl_client.proofs.caching_client.Judged.{stalls-waiting, stalls-moving}
use Rattle.tl_client.proofs.caching.CachingAgent.stalls.Goals as goal

pub returns-then-waits : goal.returns-then-waits
returns-then-waits g c = λ e k. stalls-waiting c.args.self.now c.args.channel c.args.beat.now e _ k
    (sym (c.waits.ensures e k) ∙ c.if-waits.true) (search rules)

pub returns-else-waits : goal.returns-else-waits
returns-else-waits g c = λ e k. stalls-moving c.args.self.now c.args.channel c.args.beat.now e _ (c.waits.ensures e k)
    c.if-waits.false
