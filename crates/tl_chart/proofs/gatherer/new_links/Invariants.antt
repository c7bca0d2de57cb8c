use Rattle.std.proofs.Common.{◌≡◌, ℕ, [], length}
use Rattle.tl_chart.specs.code.Gathered.{KnowLinks}
use Rattle.tl_chart.proofs.gatherer.new_links.Given as goal

abbrev pub invariant-loop : goal.invariant-loop
invariant-loop l = record {
  known : (w : ℕ) → KnowLinks {w = w} l.links.items [];
  many : length l.links.items ≡ l.counter;
}
