use Rattle.tl_reasons.proofs.Replaying.{same_liberties}
use Rattle.tl_reasons.proofs.explain.replayed.Goals as goal

pub returns-clause-allowed : goal.returns-clause-allowed
returns-clause-allowed g c =
    same_liberties c.in_ok-replay.replay.allow c.args.allow c.ne.result c.ne.ensures c.if-ne.false
