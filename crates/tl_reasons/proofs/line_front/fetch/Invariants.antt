use Rattle.std.proofs.Common.{ℕ, ◌<◌, List}
use Rattle.std.specs.Io.KnownBytes.{Consumes}
use Rattle.tl_reasons.specs.code.Reaching.{KnowsFront}
use Rattle.tl_reasons.proofs.line_front.fetch.Given as goal

abbrev pub invariant-loop : goal.invariant-loop
invariant-loop g l = record {
  room : 0 < l.chunk.len;
  read : (read : List ℕ) × Consumes (g.R.Read.remaining l.fn.reader) (g.R.Read.remaining l.reader) read
      × KnowsFront l.good l.line read;
}
