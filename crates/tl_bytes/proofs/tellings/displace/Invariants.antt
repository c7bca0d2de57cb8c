use Rattle.std.proofs.Common.{◌++◌, ◌≡◌}
use Rattle.tl_bytes.specs.code.Tellings.{displaced}
use Rattle.tl_bytes.proofs.tellings.displace.Given as goal

abbrev pub invariant-loop-place : goal.invariant-loop-place
invariant-loop-place l = l.told.items ≡ l.initial.told.items ++ displaced l.place l.latest l.write l.since
