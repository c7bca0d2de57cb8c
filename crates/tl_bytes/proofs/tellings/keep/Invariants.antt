use Rattle.std.proofs.Common.{◌++◌, ◌≡◌, drop, filter}
use Rattle.tl_bytes.specs.code.Tellings.{stays}
use Rattle.tl_bytes.proofs.tellings.keep.Given as goal

abbrev pub invariant-loop-telling : goal.invariant-loop-telling
invariant-loop-telling l =
    l.told.items ++ filter (stays l.write l.since) (drop l.telling-index l.before)
    ≡ l.initial.told.items ++ filter (stays l.write l.since) l.before
