use Rattle.std.proofs.Common.{◌≡◌, length}
use Rattle.tl_commits.proofs.granting.any_grants.Given as goal

abbrev pub invariant-loop : goal.invariant-loop
invariant-loop l = length l.grants.items ≡ l.counter
