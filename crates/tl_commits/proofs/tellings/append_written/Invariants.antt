use Rattle.std.proofs.Common.{◌≡◌, ◌++◌}
use Rattle.tl_commits.specs.code.Tellings.{written}
use Rattle.tl_commits.proofs.tellings.append_written.Given as goal

abbrev pub invariant-loop-place : goal.invariant-loop-place
invariant-loop-place l = l.told.items ≡ l.initial.told.items ++ written l.place l.places l.write l.moment
