use Rattle.std.proofs.Common.{rules}
use Rattle.tl_reasons.proofs.Replaying.{same_liberties}
use Rattle.tl_wide_event_story.proofs.explain.append_story.Goals as goal

pub returns-clause-ok : goal.returns-clause-ok
returns-clause-ok g c = (
  search rules,
  c.is_mode.ensures (search rules),
  same_liberties c.args.replay.now.allow c.args.allow c.ne.result c.ne.ensures c.if-ne.false,
  c.is_same.ensures (search rules),
  search rules,
  search rules,
  search rules,
)
