use Rattle.std.proofs.Common.{◌≡◌, drop}
use Rattle.tl_bytes.specs.code.Tellings.{left_as}
use Rattle.tl_bytes.proofs.write.is_left_as.Given as goal

abbrev pub invariant-loop-write : goal.invariant-loop-write
invariant-loop-write l = left_as l.place l.byte (drop l.write-index l.writes) ≡ left_as l.place l.byte l.writes
