use Rattle.std.proofs.Common.{◌≡◌, length}
use Rattle.tl_witness.proofs.Witnesses.{AreFresh}
use Rattle.tl_witness.proofs.witness.Witness.new.Given as goal

abbrev pub invariant-loop-n : goal.invariant-loop-n
invariant-loop-n l = (length l.recorders.items ≡ l.n) × AreFresh l.recorders.items l.block
