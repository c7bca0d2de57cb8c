use Rattle.tl_rules.proofs.Open.{no-release}
use Rattle.tl_rules.proofs.order.broken_release_ack.Goals as goal

pub returns-in-None : goal.returns-in-None
returns-in-None g c = λ l t k. no-release l c.args.x.now t c.requires (c.in-None.ensures l t k)
