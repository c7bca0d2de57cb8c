use Rattle.tl_wide_event_lines.proofs.AsBefore.{as-before, links-apart, marked-apart, wide-apart}
use Rattle.tl_wide_event_lines.proofs.law.judged_as_before.Goals as goal

pub returns-clause-judged : goal.returns-clause-judged
returns-clause-judged c = as-before

pub returns-clause-links : goal.returns-clause-links
returns-clause-links c = links-apart

pub returns-clause-wide : goal.returns-clause-wide
returns-clause-wide c = wide-apart

pub returns-clause-marked : goal.returns-clause-marked
returns-clause-marked c = marked-apart
