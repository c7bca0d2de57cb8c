use Rattle.std.proofs.Common.{◌+◌, ◌*◌, [], length}
use Rattle.tl_commits.specs.statement.Copied.{copy_values}
use Rattle.tl_commits.specs.statement.Events.{beats_of}
use Rattle.tl_commits.specs.statement.Seen.{memory_may}
use Rattle.tl_evidence.proofs.recording.sets_of.Goals as goal

pub returns : goal.returns
returns g c = λ may levels complete k lt. (
  c.in_ok-copy-2.ensures g.row.W
      (λ place. copy_values complete (length levels) c.args.link.0 (64 * c.args.block + place))
      (λ place small. c.in_ok-copy.ensures levels complete may [] k lt place small),
  c.in_ok-memory-2.ensures g.row.W
      (λ place e. memory_may complete.zero (length levels) (64 * c.args.block + place) (beats_of e))
      (λ place small. c.in_ok-memory.ensures levels complete may [] k place small),
)
