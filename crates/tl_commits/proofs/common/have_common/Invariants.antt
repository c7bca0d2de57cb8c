use Rattle.std.proofs.Common.{◌≡◌, drop}
use Rattle.tl_bytes.specs.statement.Known.{tellings_at}
use Rattle.tl_commits.specs.statement.Commits.{have_common}
use Rattle.tl_commits.proofs.common.have_common.Given as goal

abbrev pub invariant-loop-telling : goal.invariant-loop-telling
invariant-loop-telling l = have_common (tellings_at l.place (drop l.telling-index l.these)) (tellings_at l.place l.those)
    ≡ have_common (tellings_at l.place l.these) (tellings_at l.place l.those)
