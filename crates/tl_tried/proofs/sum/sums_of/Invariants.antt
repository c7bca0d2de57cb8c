use Rattle.std.proofs.Common.{◌≡◌, drop}
use Rattle.tl_tried.specs.statement.Sums.{sums_from, sums_of}
use Rattle.tl_tried.proofs.sum.sums_of.Given as goal

abbrev pub invariant-loop-trace : goal.invariant-loop-trace
invariant-loop-trace l = sums_from l.trace l.sums.items (drop l.trace l.all) ≡ sums_of l.all
