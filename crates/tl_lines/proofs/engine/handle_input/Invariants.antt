use Rattle.std.proofs.Common.{◌≡◌, ◌<◌, [], ℕ, List, length}
use Rattle.std.specs.Io.KnownBytes.{Appends, Consumes}
use Rattle.tl_lines.specs.code.Judging.{KnowsFor}
use Rattle.tl_lines.specs.code.Progress.{Progress}
use Rattle.tl_lines.proofs.engine.handle_input.Given as goal

abbrev pub invariant-loop : goal.invariant-loop
invariant-loop g l = record {
  empty : l.out.items ≡ [];
  room : 0 < length l.chunk.items;
  so_far : (read text : List ℕ) × Consumes (g.R.Read.remaining l.fn.reader) (g.R.Read.remaining l.reader) read
      × Appends (g.W.Write.contents l.fn.writer) (g.W.Write.contents l.writer) text × Progress
      (KnowsFor g.H.LineHandler.purpose (g.H.LineHandler.purpose l.fn.handler) g.H.LineHandler.knows) l.lines read text;
}
