use Rattle.std.proofs.Common.{◌≡◌, ◌≤◌, length, ◌-◌}
use Rattle.tl_lines.specs.code.TraceReading.{levels_at}
use Rattle.tl_params.proofs.UpTo.{behind}
use Rattle.tl_lines.proofs.header.levels.Given as goal

abbrev pub invariant-loop-rest : goal.invariant-loop-rest
invariant-loop-rest l = record {
  few : length l.levels.items ≤ 16;
  same : levels_at 16 l.bytes ≡ behind l.levels.items (levels_at (16 - length l.levels.items) l.rest);
}

abbrev pub decreases-loop-rest : goal.decreases-loop-rest
decreases-loop-rest l = 16 - length l.levels.items
