use Rattle.std.proofs.Common.{◌≡◌, drop}
use Rattle.tl_bytes.specs.code.Possible.{is_covered}
use Rattle.tl_bytes.proofs.read_bytes.is_covered.Given as goal

abbrev pub invariant-loop-other : goal.invariant-loop-other
invariant-loop-other l =
    is_covered l.place l.value (drop l.other-index l.possible) ≡ is_covered l.place l.value l.possible
