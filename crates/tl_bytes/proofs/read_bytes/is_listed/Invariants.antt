use Rattle.std.proofs.Common.{◌≡◌, drop}
use Rattle.tl_bytes.specs.statement.Known.{is_listed}
use Rattle.tl_bytes.proofs.read_bytes.is_listed.Given as goal

abbrev pub invariant-loop-other : goal.invariant-loop-other
invariant-loop-other l =
    is_listed l.place l.byte (drop l.other-index l.possible) ≡ is_listed l.place l.byte l.possible
