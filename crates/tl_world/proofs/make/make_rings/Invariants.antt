use Rattle.tl_world.specs.code.Carrying.{AreFresh}
use Rattle.tl_world.proofs.make.make_rings.Given as goal

abbrev pub invariant-loop-at : goal.invariant-loop-at
invariant-loop-at g l = AreFresh l.config l.at l.all.items
