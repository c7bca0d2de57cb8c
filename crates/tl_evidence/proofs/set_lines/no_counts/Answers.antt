use Rattle.std.proofs.Common.{rules}
use Rattle.tl_evidence.proofs.Setting.{none-more}
use Rattle.tl_evidence.proofs.set_lines.no_counts.Goals as goal

pub loop-preserved : goal.loop-preserved
loop-preserved c = record {
  long = search rules;
  none = λ at. rw c.in_ok-push.ensures.items (none-more c.loop.counts.items c.loop.invariant.none at);
}
