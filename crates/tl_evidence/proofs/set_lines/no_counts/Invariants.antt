use Rattle.std.proofs.Common.{◌≡◌, ℕ, length}
use Rattle.std.specs.Prelude.{None, slice_index_or}
use Rattle.tl_evidence.proofs.set_lines.no_counts.Given as goal

abbrev pub invariant-loop : goal.invariant-loop
invariant-loop l = record {
  long : length l.counts.items ≡ l.counter;
  none : (at : ℕ) → slice_index_or l.counts.items at None ≡ None;
}
