use Rattle.tl_commit_lines.proofs.AsBefore.{as-before, links-apart, wide-apart}
use Rattle.tl_commit_lines.proofs.law.judged_as_before.Goals as goal

pub returns-clause-judged : goal.returns-clause-judged
returns-clause-judged c = as-before

pub returns-clause-links : goal.returns-clause-links
returns-clause-links c = links-apart

pub returns-clause-wide : goal.returns-clause-wide
returns-clause-wide c = wide-apart
