use Rattle.tl_report.proofs.Verdict.{at_most}
use Rattle.tl_report.proofs.law.finds_at_most.Goals as goal

pub returns : goal.returns
returns c = at_most
