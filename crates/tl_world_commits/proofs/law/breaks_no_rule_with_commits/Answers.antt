use Rattle.tl_world_commits.proofs.Concord.{commit_concord}
use Rattle.tl_world_commits.proofs.law.breaks_no_rule_with_commits.Goals as goal

pub returns : goal.returns
returns g c = λ zero config l log given ranged within. commit_concord zero config l log given ranged within
