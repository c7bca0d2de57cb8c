use Rattle.std.proofs.Common.{◌<◌, ℕ, List, length}
use Rattle.std.specs.Io.KnownBytes.{Consumes}
use Rattle.tl_lines.specs.code.Progress.{Progress}
use Rattle.tl_reasons.specs.code.Replaying.{KnowsReplay}
use Rattle.tl_reasons.proofs.reread.read_again.Given as goal

abbrev pub invariant-loop : goal.invariant-loop
invariant-loop g l = record {
  room : 0 < length l.chunk.items;
  so_far : (read : List ℕ) × Consumes (g.R.Read.remaining l.fn.reader) (g.R.Read.remaining l.reader) read
      × Progress (λ r lines text. KnowsReplay r lines) l.lines read l.out.items;
}
