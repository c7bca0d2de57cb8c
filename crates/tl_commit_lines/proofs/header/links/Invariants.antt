use Rattle.std.proofs.Common.{◌≡◌, ◌≤◌, length, ◌-◌}
use Rattle.tl_commit_lines.specs.code.HeadReading.{links_at}
use Rattle.tl_params.proofs.UpTo.{behind}
use Rattle.tl_commit_lines.proofs.header.links.Given as goal

abbrev pub invariant-loop-rest : goal.invariant-loop-rest
invariant-loop-rest l = record {
  few : length l.links.items ≤ 16;
  same : links_at 16 l.bytes ≡ behind l.links.items (links_at (16 - length l.links.items) l.rest);
}

abbrev pub decreases-loop-rest : goal.decreases-loop-rest
decreases-loop-rest l = 16 - length l.links.items
