use Rattle.std.proofs.Common.{◌≡◌, ◌<◌, ℕ, List, length}
use Rattle.std.specs.Io.KnownBytes.{Consumes}
use Rattle.tl_report.specs.code.Searching.{aim_of}
use Rattle.tl_sign_off.specs.code.Noting.{IsJudged, IsNoted}
use Rattle.tl_sign_off.proofs.judge.read_whole.Given as goal

abbrev pub invariant-loop : goal.invariant-loop
invariant-loop g l = record {
  room : 0 < length l.chunk.items;
  so_far : (input : List ℕ) × Consumes (g.R.Read.remaining l.fn.reader) (g.R.Read.remaining l.reader) input
      × IsNoted l.notes input × IsJudged l.status l.lines input l.out.items;
  same : aim_of l.lines.handler ≡ aim_of l.fn.lines.handler;
}
