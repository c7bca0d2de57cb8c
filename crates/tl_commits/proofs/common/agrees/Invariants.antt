use Rattle.std.proofs.Common.{◌≡◌, drop, find}
use Rattle.std.specs.Prelude.{is_some}
use Rattle.tl_bytes.specs.statement.Known.{tellings_at}
use Rattle.tl_commits.specs.statement.Commits.{agree}
use Rattle.tl_commits.proofs.common.agrees.Given as goal

abbrev pub invariant-loop-telling : goal.invariant-loop-telling
invariant-loop-telling l = is_some (find (λ y. agree l.value y.value) (tellings_at l.place (drop l.telling-index l.told)))
    ≡ is_some (find (λ y. agree l.value y.value) (tellings_at l.place l.told))
