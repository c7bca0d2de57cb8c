use Rattle.tl_true_bytes.proofs.Together.{concord}
use Rattle.tl_true_bytes.proofs.law.breaks_no_rule_together.Goals as goal

pub returns : goal.returns
returns g c = λ config l log given within. concord config l log given within
