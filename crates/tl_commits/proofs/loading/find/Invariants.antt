use Rattle.std.proofs.Common.{◌≡◌, drop, find}
use Rattle.tl_commits.specs.code.Loading.{is_of}
use Rattle.tl_commits.proofs.loading.find.Given as goal

abbrev pub invariant-loop-loading : goal.invariant-loop-loading
invariant-loop-loading l = find (is_of l.link.0 l.piece) (drop l.loading-index l.loads) ≡ find (is_of l.link.0 l.piece) l.loads
