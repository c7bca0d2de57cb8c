use Rattle.tl_world_commits.proofs.Events.{unbroken_commits}
use Rattle.tl_world_commits.proofs.law.breaks_no_rule_of_commits.Goals as goal

pub returns : goal.returns
returns g c = λ zero config log given ranged. unbroken_commits zero config log given ranged
