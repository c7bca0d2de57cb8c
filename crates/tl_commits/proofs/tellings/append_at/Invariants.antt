use Rattle.std.proofs.Common.{◌≡◌, ◌++◌}
use Rattle.std.specs.Prelude.{filter, take}
use Rattle.tl_commits.specs.code.Tellings.{stands}
use Rattle.tl_commits.proofs.tellings.append_at.Given as goal

abbrev pub invariant-loop-telling : goal.invariant-loop-telling
invariant-loop-telling l =
    l.told.items ≡ l.initial.told.items ++ filter (stands l.places l.there) (take l.telling-index l.before)
