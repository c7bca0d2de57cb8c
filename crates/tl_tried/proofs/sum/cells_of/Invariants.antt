use Rattle.std.proofs.Common.{◌≡◌, drop}
use Rattle.tl_tried.specs.statement.Sums.{cells_from, cells_of}
use Rattle.tl_tried.proofs.sum.cells_of.Given as goal

abbrev pub invariant-loop-tried : goal.invariant-loop-tried
invariant-loop-tried l = cells_from l.sums.items (drop l.tried-index l.all) ≡ cells_of l.all
