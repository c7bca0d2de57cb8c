use Rattle.std.proofs.Common.{length, true, false}
use Rattle.tl_together.proofs.Answered.{grant_is}
use Rattle.tl_together.proofs.judge.Judge.broken_grant.Goals as goal

pub returns-then-is_grantable : goal.returns-then-is_grantable
returns-then-is_grantable g c = λ levels may t k free.
    grant_is c.args.self.now.links (length levels) c.args.link.0 c.args.x.now c.capped-given.result c.args.asked t
    c.is_grantable.result k.links_are c.capped-given.ensures
    (c.is_grantable.ensures levels may t k.monitor_is k.links_are
    (λ yes. rw k.links_are (c.says_free-known_free.ensures (length levels) t free yes))) true c.if-is_grantable.true

pub returns-else-is_grantable : goal.returns-else-is_grantable
returns-else-is_grantable g c = λ levels may t k free.
    grant_is c.args.self.now.links (length levels) c.args.link.0 c.args.x.now c.capped-given.result c.args.asked t
    c.is_grantable.result k.links_are c.capped-given.ensures
    (c.is_grantable.ensures levels may t k.monitor_is k.links_are
    (λ yes. rw k.links_are (c.says_free-known_free.ensures (length levels) t free yes))) false c.if-is_grantable.false
