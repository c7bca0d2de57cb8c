use Rattle.tl_commit_memory.proofs.Copies.{kept_copies}
use Rattle.tl_commit_memory.proofs.law.keeps_rules_of_copies.Goals as goal

pub returns : goal.returns
returns g c = λ complete n first run starts is copies. kept_copies complete n first run starts is copies
