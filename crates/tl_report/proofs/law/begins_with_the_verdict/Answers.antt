use Rattle.tl_report.proofs.Verdict.{verdict_so}
use Rattle.tl_report.proofs.law.begins_with_the_verdict.Goals as goal

pub returns : goal.returns
returns c = verdict_so
