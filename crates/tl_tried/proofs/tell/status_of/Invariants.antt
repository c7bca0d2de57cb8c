use Rattle.std.proofs.Common.{◌≡◌, drop}
use Rattle.tl_tried.specs.statement.Tried.{status_of}
use Rattle.tl_tried.proofs.tell.status_of.Given as goal

abbrev pub invariant-loop-tried : goal.invariant-loop-tried
invariant-loop-tried l = status_of (drop l.tried-index l.all) ≡ status_of l.all
